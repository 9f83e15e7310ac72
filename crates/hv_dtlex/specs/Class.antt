-- Kinds of bytes.
use Rattle.std.specs.Prelude.{ℕ, Bool, ◌||◌, ◌==◌, not, codes}
use Rattle.std.specs.Char.{is_ascii_alphanumeric}
use Rattle.std.specs.List.{list_any}
use Rattle.hv_dtlex.specs.declared.class.ByteClass.{ByteClass}
use Rattle.hv_dtlex.specs.declared.class.ByteClass.TheVariants.{Name, Word, Alphanumeric, InLine}

-- a letter, a digit or a low line
abbrev pub is_name_byte : ℕ → Bool
is_name_byte b = is_ascii_alphanumeric b || (b == 95)

-- a letter, a digit or one of these marks
abbrev pub is_word_byte : ℕ → Bool
is_word_byte b = is_ascii_alphanumeric b || list_any (λ mark. mark == b) (codes ",._+-?#@")

-- any byte but a line feed
abbrev pub is_in_line : ℕ → Bool
is_in_line b = not (b == 10)

-- whether a class has the byte
abbrev pub class_has : ByteClass → ℕ → Bool
class_has Name b = is_name_byte b
class_has Word b = is_word_byte b
class_has Alphanumeric b = is_ascii_alphanumeric b
class_has InLine b = is_in_line b
