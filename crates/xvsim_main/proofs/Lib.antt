mod Resets
