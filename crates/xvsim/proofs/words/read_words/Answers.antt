use Rattle.std.proofs.Common.{ℕ, List, inl, inr}
use Rattle.xvsim.specs.Words.{AreRunWords, AreCheckWords, AreGenWords, AreWords}
use Rattle.xvsim.proofs.words.read_words.Goals as goal

none_of : (words : List (List ℕ)) → (AreRunWords words → ⊥) → (AreCheckWords words → ⊥) → ((number : ℕ) → AreGenWords number words → ⊥) → AreWords words → ⊥
none_of words run check gen (inl (inl is)) = run is
none_of words run check gen (inl (inr is)) = check is
none_of words run check gen (inr is) = gen is.0 is.1

pub returns-in-None : goal.returns-in-None
returns-in-None c =
    none_of _ (λ is. cc (c.if-are_run_words.ensures.1 is)) (λ is. cc (c.if-are_check_words.ensures.1 is)) c.in-None.ensures
