-- The words of a line, and the lines of a script that are commands.
use Rattle.std.specs.Prelude.{◌≢◌, ℕ, ◌==◌, not, ◌||◌, Bool, true, false, if◌then◌else◌, List, [], ◌∷◌, filter}
use Rattle.hv_text.specs.Lines.{script_lines}

-- whether there are no bytes
abbrev pub is_empty : List ℕ → Bool
is_empty [] = true
is_empty (b ∷ bs) = false

-- a byte is put before the first piece
abbrev pub onto_first : ℕ → List (List ℕ) → List (List ℕ)
onto_first b [] = (b ∷ []) ∷ []
onto_first b (p ∷ ps) = (b ∷ p) ∷ ps

-- the pieces of a line are what stands before, between and behind its spaces
abbrev pub pieces : List ℕ → List (List ℕ)
pieces [] = [] ∷ []
pieces (b ∷ bs) = if b == 32 then [] ∷ pieces bs else onto_first b (pieces bs)

-- the words of a line are its pieces that are not empty
abbrev pub words : List ℕ → List (List ℕ)
words line = filter (λ p. not (is_empty p)) (pieces line)

-- whether the first word begins with a `#`
abbrev pub begins_comment : List (List ℕ) → Bool
begins_comment [] = false
begins_comment ([] ∷ ws) = false
begins_comment ((b ∷ bs) ∷ ws) = b == 35

-- whether there are no words
abbrev pub no_words : List (List ℕ) → Bool
no_words [] = true
no_words (w ∷ ws) = false

-- a line is skipped where it is blank or begins, behind spaces, with a `#`
abbrev pub is_skipped : List ℕ → Bool
is_skipped line = no_words (words line) || begins_comment (words line)

-- the commands of a script are its lines that are not skipped
abbrev pub commands_of : List ℕ → List (List ℕ)
commands_of script = filter (λ l. not (is_skipped l)) (script_lines script)

-- a text is empty or begins with a byte of a word
abbrev pub StartsWord : List ℕ → Type 0
StartsWord [] = Unit {0}
StartsWord (b ∷ bs) = b ≢ 32
