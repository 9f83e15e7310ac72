-- Which replies refuse their step, and for what.
use Rattle.std.specs.Prelude.{Bool, true, false, if◌then◌else◌, Result, Ok, Err, Option, None, Some}
use Rattle.hv_answer.specs.declared.reply.Reply.{Reply}
use Rattle.hv_answer.specs.declared.reply.Reply.TheVariants as reply
use Rattle.hv_refusal.specs.declared.refusal.Refusal.{Refusal}
use Rattle.hv_refusal.specs.declared.refusal.Refusal.TheVariants.{NoSuchGuest, GuestState, NoRegion}

-- Why an answer is refused, if it is.
abbrev pub why_of : {A : Type 0} → Result A Refusal → Option Refusal
why_of (Ok given) = None
why_of (Err why) = Some why

-- Why a step is refused, if it is; the steps that have no row are never refused.
abbrev pub refusal_of : Reply → Option Refusal
refusal_of (reply.Bad why) = Some why
refusal_of (reply.Ls r) = why_of r
refusal_of (reply.Cat r) = why_of r
refusal_of (reply.Dts r) = why_of r
refusal_of (reply.Run r) = why_of r
refusal_of (reply.Mkdir r) = why_of r
refusal_of (reply.Rm r) = why_of r
refusal_of (reply.Write r) = why_of r
refusal_of (reply.Asm r) = why_of r
refusal_of (reply.Name r) = why_of r
refusal_of (reply.Stage r) = why_of r
refusal_of (reply.Add r) = why_of r
refusal_of (reply.Drop r) = why_of r
refusal_of (reply.Regions r) = why_of r
refusal_of (reply.Load r) = why_of r
refusal_of (reply.Mem r) = why_of r
refusal_of (reply.Devreset r) = why_of r
refusal_of (reply.Feed r) = why_of r
refusal_of (reply.Output r) = why_of r
refusal_of (reply.Vadd r) = why_of r
refusal_of (reply.Vdrop r) = why_of r
refusal_of (reply.Kick r) = why_of r
refusal_of (reply.Resume r) = why_of r
refusal_of (reply.Pause r) = why_of r
refusal_of (reply.Halt r) = why_of r
refusal_of (reply.Reset r) = why_of r
refusal_of (reply.Dispatch r) = why_of r
refusal_of _ = None

-- The directory refuses for want of the guest, of its stage, or of its region.
abbrev pub is_by_directory : Refusal → Bool
is_by_directory NoSuchGuest = true
is_by_directory (GuestState stage) = true
is_by_directory NoRegion = true
is_by_directory _ = false

-- Of refusals, those by the directory.
abbrev pub by_directory : Option Refusal → Option Refusal
by_directory None = None
by_directory (Some why) = if is_by_directory why then Some why else None

abbrev pub directory_refusal_of : Reply → Option Refusal
directory_refusal_of r = by_directory (refusal_of r)
