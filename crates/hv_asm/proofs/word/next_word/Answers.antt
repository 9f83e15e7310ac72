use Rattle.std.proofs.Common.{◌≡◌, ◌<◌, ◌∷◌, length, take, drop, sym, ◌∙◌, arith, false-eqb}
use Rattle.hv_asm.specs.Line.{words}
use Rattle.hv_asm.proofs.Words.{word_in_front}
use Rattle.hv_asm.proofs.word.next_word.Goals as goal

pub returns : goal.returns
returns c =
    let start = c.behind_blanks-start.result.now in
    let len = c.word_len.result in
    let some : 0 < length start = omega (arith, false-eqb (length start) 0 c.if-is_empty.ensures) in
    let cut : words start ≡ take len start ∷ words (drop len start) = word_in_front start len c.behind_blanks-start.ensures.start some c.word_len.ensures.bytes c.word_len.ensures.stops in
    rw (c.split_at.ensures.front, c.split_at.ensures.back) (sym c.behind_blanks-start.ensures.words ∙ cut)
