-- White space of device tree source (Devicetree Specification 0.4, appendix A): spaces, ends of lines, comments.
use Rattle.std.specs.Prelude.{ℕ, zero, suc, ◌+◌, List, [], ◌∷◌, length, drop, Bool, ◌||◌, ◌&&◌, ◌==◌, nat_eq, nat_lt, if◌then◌else◌, Option, Some, None, codes}
use Rattle.std.specs.Option.{option_map, option_map_or}
use Rattle.std.specs.List.{prefix_len, starts_with}
use Rattle.hv_dtlex.specs.Class.{is_in_line}

-- a space, a tab, a line feed, a vertical tab, a form feed or a carriage return
abbrev pub is_space : ℕ → Bool
is_space b = (b == 32) || (nat_lt 8 b && nat_lt b 14)

-- where the first `*/` stands
abbrev pub close_at : List ℕ → Option ℕ
close_at [] = None
close_at (b ∷ rest) =
    if starts_with nat_eq (b ∷ rest) (codes "*/") then Some 0 else option_map (λ n. n + 1) (close_at rest)

-- how long the comment in front is: two slashes and the rest of the line, or what `/*` and `*/` enclose
abbrev pub comment_len : List ℕ → ℕ
comment_len text =
    if starts_with nat_eq text (codes "//") then prefix_len is_in_line text
    else (if starts_with nat_eq text (codes "/*") then option_map_or (λ n. n + 4) (close_at (drop 2 text)) 0 else 0)

-- how long the blank in front is, one byte of space or a comment, and 0 where none stands there
abbrev pub blank_len : List ℕ → ℕ
blank_len [] = 0
blank_len (b ∷ rest) = if is_space b then 1 else comment_len (b ∷ rest)

-- what is left when so many blanks have been skipped
abbrev pub skipped : ℕ → List ℕ → List ℕ
skipped zero text = text
skipped (suc count) text = skipped count (drop (blank_len text) text)

-- what is left when all blanks in front have been skipped, of which there are no more than bytes
abbrev pub behind_blanks : List ℕ → List ℕ
behind_blanks text = skipped (length text) text
