use Rattle.std.proofs.Common.{[], ◌∷◌, refl, inl, inr}
use Rattle.hv_words.proofs.TextLemmas.{digits_next}
use Rattle.hv_words.proofs.text.next_byte.Goals as goal

pub returns-then-first-ne92 : goal.returns-then-first-ne92
returns-then-first-ne92 c = record {
  piece = c.in_ok-first.first.now ∷ [];
  text_is = c.in_ok-first.ensures.cases.0;
  spelled = inl (c.if-first-ne92.true, refl);
}

pub returns-in-92 : goal.returns-in-92
returns-in-92 c = record {
  piece = 92 ∷ 92 ∷ [];
  text_is = cc (c.in_ok-first.ensures.cases.0, c.if-first-ne92.false, c.in_ok-kind.ensures.cases.0, c.in-92.is);
  spelled = inr (inl (refl, refl));
}

pub returns-in-110 : goal.returns-in-110
returns-in-110 c = record {
  piece = 92 ∷ 110 ∷ [];
  text_is = cc (c.in_ok-first.ensures.cases.0, c.if-first-ne92.false, c.in_ok-kind.ensures.cases.0, c.in-110.is);
  spelled = inr (inr (inl (refl, refl)));
}

pub returns-in-115 : goal.returns-in-115
returns-in-115 c = record {
  piece = 92 ∷ 115 ∷ [];
  text_is = cc (c.in_ok-first.ensures.cases.0, c.if-first-ne92.false, c.in_ok-kind.ensures.cases.0, c.in-115.is);
  spelled = inr (inr (inr (inl (refl, refl))));
}

pub returns-in-120 : goal.returns-in-120
returns-in-120 c = digits_next c.args.text.now c.in_ok-kind.behind.now (cc (c.in_ok-first.ensures.cases.0, c.if-first-ne92.false, c.in_ok-kind.ensures.cases.0, c.in-120.is)) c.digits_byte.result c.digits_byte.ensures
