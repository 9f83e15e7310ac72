-- How an event ends on a board: made, or held up by want of memory or by the last stamp.
use Rattle.std.proofs.Common.{◌≡◌, ℕ, List, refl, sym, ap, subst, ◌∙◌}
use Rattle.std.specs.Prelude.{Result, Err, IfErr}
use Rattle.std.specs.List.{AllByRecursion}
use Rattle.std.specs.declared.alloc.AllocError.{AllocError}
use Rattle.hv_answer.specs.declared.reply.Reply.{Reply}
use Rattle.hv_board.specs.Board.{AreInOrder, greatest_at}
use Rattle.hv_board.specs.Holds.{HoldsAsBefore}
use Rattle.hv_board.specs.Lifted.{IsNext}
use Rattle.hv_board.specs.Places.{HasPlace}
use Rattle.hv_board.specs.declared.board.Board.{Board}
use Rattle.hv_board.specs.declared.lifted.Lifted.{Lifted}
use Rattle.hv_board.specs.declared.stop.Stop.{Stop}
use Rattle.hv_board.specs.declared.stop.Stop.TheVariants.{Memory, Spent}
use Rattle.hv_emu.specs.Device.{DevState}
use Rattle.hv_event.specs.declared.event.ActorId.{ActorId}
use Rattle.hv_event.specs.declared.event.CellId.{CellId}
use Rattle.hv_rules.specs.Carry.{Carry}
use Rattle.hv_rules.specs.Footprint.{components}
use Rattle.hv_rules.specs.Handed.{handed_over}
use Rattle.hv_step.specs.declared.step.Step.{Step}
use Rattle.hv_text.specs.declared.limits.TheConstants.{GREATEST_STAMP}
use Rattle.hv_board_steps.specs.Happened.{FindsLast, IsHappened, IsHeldUp}
use Rattle.hv_board_steps.specs.declared.happened.Happened.{Happened}

-- What touches some components finds the last stamp where they have it.
pub finds :
    {E : Type 0} (board : Board E) (by : ActorId) (own : ℕ) (s : Step) (Wanted : Reply → Carry → Type 0) (r : Reply) (c : Carry) (xs : List CellId)
    → components board.layout.harts by s r c ≡ xs → handed_over s c ≡ c → Wanted r c → AreInOrder board.layout xs → greatest_at board own xs ≡ GREATEST_STAMP
    → FindsLast by own s Wanted board
finds board by own s Wanted r c xs touched alone wanted order last = record {
  reply = r;
  carry = c;
  wanted = wanted;
  alone = alone;
  have = subst (AllByRecursion (HasPlace board.layout)) (sym touched) order.have;
  found = ap (greatest_at board own) touched ∙ last;
}

module _ {E : Type 0} (state : E → DevState) (by : ActorId) (own : ℕ) (s : Step) (Wanted : Reply → Carry → Type 0) (before after : Board E) where
  -- The last stamp holds an event up, and nothing has changed.
  pub stamp-held : (why : Stop) → after ≡ before → why ≡ Spent GREATEST_STAMP → FindsLast by own s Wanted before → IsHeldUp state by own s Wanted before after why
  stamp-held why same is finds = record {
    holds = subst (HoldsAsBefore state before) (sym same) (λ O t holds. holds);
    spent = λ stamp so. (cc, finds);
  }

  -- The same of a call that gives the last stamp.
  pub err-held : (r : Result (Happened E) Stop) → r ≡ Err (Spent GREATEST_STAMP) → after ≡ before → FindsLast by own s Wanted before
      → IfErr r (λ why. IsHeldUp state by own s Wanted before after why)
  err-held r is same finds =
      subst (λ (x : Result (Happened E) Stop). IfErr x (λ why. IsHeldUp state by own s Wanted before after why)) (sym is) (stamp-held (Spent GREATEST_STAMP) same refl finds)

  -- So does want of memory, and the parts went back.
  pub memory-held : (why : Stop) (e : AllocError) → HoldsAsBefore state before after → why ≡ Memory e → IsHeldUp state by own s Wanted before after why
  memory-held why e holds is = record { holds = holds; spent = λ stamp so. absurd (cc) }

  -- An event that happened on the board of which the parts were lifted.
  pub happened-there : (xs : List CellId) (lifted : Lifted E) (h : Happened E) → IsNext state own xs before lifted
      → IsHappened state by own s lifted.before.value after h → IsHappened state by own s before after h
  happened-there xs lifted h next is = subst (λ (b : Board E). IsHappened state by own s b after h) next.before_is is
