-- The component of the directory: to which events it agrees, and what an event leaves in it.
use Rattle.std.specs.Prelude.{◌≡◌, ℕ, Option, None, Some, Result, Ok, Err, List, filter_map, option_map}
use Rattle.std.specs.Result.{result_ok}
use Rattle.hv_answer.specs.declared.reply.Reply.{Reply}
use Rattle.hv_answer.specs.declared.reply.Reply.TheVariants as reply
use Rattle.hv_dir.specs.Directory.{DirState, claimed, granted_in, guest_at, turned}
use Rattle.hv_dir.specs.declared.entry.Entry.{Entry}
use Rattle.hv_dir.specs.declared.refusal.DirRefusal.{DirRefusal}
use Rattle.hv_dir.specs.declared.refusal.DirRefusal.TheVariants as dir
use Rattle.hv_kinds.specs.declared.generation.Generation.{Generation}
use Rattle.hv_kinds.specs.declared.stage.Stage.{Stage}
use Rattle.hv_kinds.specs.declared.stage.Stage.TheVariants.{Made}
use Rattle.hv_listing.specs.declared.guest.ListedGuest.{ListedGuest}
use Rattle.hv_refusal.specs.declared.refusal.Refusal.{Refusal}
use Rattle.hv_refusal.specs.declared.refusal.Refusal.TheVariants as refusal
use Rattle.hv_step.specs.declared.step.ByGuest.{ByGuest}
use Rattle.hv_step.specs.declared.step.Step.{Step}
use Rattle.hv_step.specs.declared.step.Step.TheVariants as step
use Rattle.hv_rules.specs.Carry.{Carry, nothing}

-- A refusal of the directory, as a step's reply shows it; the definitions of the directory give no want of memory.
abbrev pub refusal_of : DirRefusal → Refusal
refusal_of dir.NameUsed = refusal.NameUsed
refusal_of dir.NoSlot = refusal.NoSlot
refusal_of dir.NoSuchGuest = refusal.NoSuchGuest
refusal_of (dir.GuestState stage) = refusal.GuestState stage
refusal_of (dir.Memory e) = refusal.NoSuchGuest

-- A slot and a birth, as a step shows them.
abbrev pub generation_of : ℕ × ℕ → Generation
generation_of guest = record { slot = guest.0; birth = guest.1 }

-- A guest as `guests` lists it.
abbrev pub listed : Entry → ListedGuest
listed guest = record { name = guest.name; slot = guest.slot; stage = guest.stage }

-- The guests by slot.
abbrev pub listed_guests : DirState → List ListedGuest
listed_guests d = filter_map (option_map listed) d.entries

-- What a claim gives, unless the terminal refuses the name before the directory is asked.
abbrev pub named : (stopped : Option Refusal) → Result (DirState × (ℕ × ℕ)) DirRefusal → Result Generation Refusal
named (Some why) claim = Err why
named None (Ok claim) = Ok (generation_of claim.1)
named None (Err why) = Err (refusal_of why)

-- What a change of the directory gives, as a step's reply shows it.
abbrev pub done : {A : Type 0} → Result A DirRefusal → Result (Unit {0}) Refusal
done (Ok given) = Ok tt
done (Err why) = Err (refusal_of why)

-- What the directory gives of a guest that a step needs, as the step shows it.
abbrev pub admitted : Result (ℕ × ℕ) DirRefusal → Result Generation Refusal
admitted (Ok guest) = Ok (generation_of guest)
admitted (Err why) = Err (refusal_of why)

-- The guest with a name, which has to be at a stage.
abbrev pub guest_in : DirState → (name : List ℕ) → Stage → Result Generation Refusal
guest_in d name stage = admitted (guest_at d name stage)

-- A region that the guest's plan hasn't has no row, and is refused last.
abbrev pub with_region : (row : Option ℕ) → Result Generation Refusal → Result Generation Refusal
with_region (Some row) guest = guest
with_region None (Ok guest) = Err refusal.NoRegion
with_region None (Err why) = Err why

-- What is handed over where no other component is asked: the terminal's part alone.
abbrev pub region_alone : Carry → Carry
region_alone c = record nothing { row = c.row; plan = c.plan }

-- A step whose guest is admitted shows its generation, and what it is answered others decide; one that is refused shows
-- none, the reply says why, and no other component is asked.
abbrev pub Admits : Result Generation Refusal → Option Generation → (Refusal → Reply) → Reply → Carry → Type 0
Admits (Ok guest) shown refused r c = shown ≡ Some guest
Admits (Err why) shown refused r c = (shown ≡ None) × (r ≡ refused why) × (c ≡ region_alone c)

-- A step of a VCPU is the directory's where it is made by guest, which has to be made.
abbrev pub AdmitsBy : DirState → Option ByGuest → (Refusal → Reply) → Reply → Carry → Type 0
AdmitsBy d None refused r c = ⊥
AdmitsBy d (Some by) refused r c = Admits (guest_in d by.name Made) by.generation refused r c

-- The directory agrees to a step by guest where the step shows the guest's generation, or the reply its first refusal,
-- to a claim and a change of stage where the reply is the one that it gives, and to a list of its guests.
abbrev pub DirAgrees : DirState → Step → Reply → Carry → Type 0
DirAgrees d (step.Guests s) r c = r ≡ reply.Guests (listed_guests d)
DirAgrees d (step.Name s) r c = r ≡ reply.Name (named c.stopped (claimed d s.name))
DirAgrees d (step.Stage s) r c =
    (r ≡ reply.Stage (done (turned d s.name s.from s.to))) × (c.guest ≡ result_ok (guest_at d s.name s.from))
DirAgrees d (step.Add s) r c =
    Admits (with_region c.row (guest_in d s.name s.stage)) s.generation (λ why. reply.Add (Err why)) r c
DirAgrees d (step.Drop s) r c =
    Admits (with_region c.row (guest_in d s.name s.stage)) s.generation (λ why. reply.Drop (Err why)) r c
DirAgrees d (step.Regions s) r c = Admits (guest_in d s.name Made) s.generation (λ why. reply.Regions (Err why)) r c
DirAgrees d (step.Load s) r c = Admits (guest_in d s.name Made) s.generation (λ why. reply.Load (Err why)) r c
DirAgrees d (step.Mem s) r c = Admits (guest_in d s.name Made) s.generation (λ why. reply.Mem (Err why)) r c
DirAgrees d (step.Devreset s) r c =
    Admits (with_region c.row (guest_in d s.name Made)) s.generation (λ why. reply.Devreset (Err why)) r c
DirAgrees d (step.Feed s) r c =
    Admits (with_region c.row (guest_in d s.name Made)) s.generation (λ why. reply.Feed (Err why)) r c
DirAgrees d (step.Output s) r c =
    Admits (with_region c.row (guest_in d s.name Made)) s.generation (λ why. reply.Output (Err why)) r c
DirAgrees d (step.Kick s) r c = AdmitsBy d s.guest (λ why. reply.Kick (Err why)) r c
DirAgrees d (step.Resume s) r c = AdmitsBy d s.guest (λ why. reply.Resume (Err why)) r c
DirAgrees d (step.Pause s) r c = AdmitsBy d s.guest (λ why. reply.Pause (Err why)) r c
DirAgrees d (step.Halt s) r c = AdmitsBy d s.guest (λ why. reply.Halt (Err why)) r c
DirAgrees d (step.Reset s) r c = AdmitsBy d s.guest (λ why. reply.Reset (Err why)) r c
DirAgrees d _ r c = ⊥

-- The changed directory, or the one before where the change is refused.
abbrev pub changed : DirState → Result DirState DirRefusal → DirState
changed d (Ok new) = new
changed d (Err why) = d

-- A claim and a change of stage alone change the directory.
abbrev pub dir_after : DirState → Step → Reply → Carry → DirState
dir_after d (step.Name s) (reply.Name (Ok guest)) c = granted_in d s.name guest.slot
dir_after d (step.Stage s) r c = changed d (turned d s.name s.from s.to)
dir_after d _ r c = d
