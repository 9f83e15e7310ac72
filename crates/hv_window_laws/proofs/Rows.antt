-- The row that a fetch or an access shows is the only one, and there is no fault instead.
use Rattle.std.proofs.Common.{◌≡◌, true, refl, sym, ap, subst, ◌∙◌, None, IsSomeAnd}
use Rattle.hv_answer.specs.declared.reply.Reply.{Reply}
use Rattle.hv_body.specs.declared.place.Answer.{Answer}
use Rattle.hv_body.specs.declared.place.Answer.TheVariants.{Answered, Denied, InArea, NoExec, NotHere}
use Rattle.hv_event.specs.declared.event.ActorId.{ActorId}
use Rattle.hv_kinds.specs.declared.changes.SignalChanges.{SignalChanges}
use Rattle.hv_kinds.specs.declared.generation.Generation.{Generation}
use Rattle.hv_laws.proofs.Frame.{false-true}
use Rattle.hv_rules.specs.Body.{ShowsAccess, ShowsWord, answer_to, area_in, changes, fetch_from, left_by}
use Rattle.hv_rules.specs.Space.{reached}
use Rattle.hv_step.specs.declared.step.Access.{Access}
use Rattle.hv_step.specs.declared.step.Fetch.{Fetch}
use Rattle.hv_vcpu.specs.Vcpu.{VcpuValue}
use Rattle.hv_window_laws.specs.Answers.{is_here}
use Rattle.hv_window_laws.specs.Guests.{Guests}
use Rattle.hv_window_laws.specs.Rows.{AccessIsTheOnlyOne, AccessOrFault, FetchIsTheOnlyOne, FetchOrFault, MayAccess, MayFetch}
use Rattle.hv_window_laws.proofs.Answered.{access-once, fetch-once, no-access, no-fetch}

-- what a reply shows is an answer

word-here : (answer : Answer) (r : Reply) → ShowsWord answer r → is_here answer ≡ true
word-here (Answered word) r shows = refl
word-here NoExec r shows = refl
word-here (InArea number offset) r shows = refl
word-here Denied r shows = refl
word-here NotHere r shows = absurd shows

access-here : (answer : Answer) (changed : SignalChanges) (r : Reply) → ShowsAccess answer changed r → is_here answer ≡ true
access-here (Answered value) changed r shows = refl
access-here Denied changed r shows = refl
access-here (InArea number offset) changed r shows = refl
access-here NoExec changed r shows = refl
access-here NotHere changed r shows = absurd shows

fetch-there : (guests : Guests) (by : ActorId) (v : VcpuValue) (s : Fetch) → MayFetch guests by v s
    → is_here (fetch_from (guests.bodies s.generation.slot s.row) v.birth v.context.pc) ≡ true
fetch-there guests by v s may =
    let body = guests.bodies s.generation.slot s.row in
    let shown =
    subst (λ pc. IsSomeAnd pc (λ pc. ShowsWord (fetch_from body s.generation.birth pc) may.reply × (may.carry.area ≡ area_in (fetch_from body s.generation.birth pc)))) may.vcpu.3 may.body in
    subst (λ birth. is_here (fetch_from body birth v.context.pc) ≡ true) may.vcpu.2
    (word-here (fetch_from body s.generation.birth v.context.pc) may.reply shown.0)

access-there : (guests : Guests) (s : Access) → MayAccess guests s → is_here (answer_to (guests.bodies s.generation.slot s.row) s) ≡ true
access-there guests s may =
    let body = guests.bodies s.generation.slot s.row in
    access-here (answer_to body s) (changes body (left_by body s)) may.reply may.body.0

-- steps that are the same in each part

generation-same : (one other : Generation) → one.slot ≡ other.slot → one.birth ≡ other.birth → one ≡ other
generation-same one other slot birth =
    ap (λ x. record one { slot = x }) slot ∙ ap (λ x. record other { birth = x }) birth

fetch-same : (one other : Fetch) → one.vcpu ≡ other.vcpu → one.row ≡ other.row → one.generation ≡ other.generation → one ≡ other
fetch-same one other vcpu row generation =
    ap (λ x. record one { vcpu = x }) vcpu
    ∙ ap (λ x. record one { vcpu = other.vcpu; row = x }) row
    ∙ ap (λ x. record other { generation = x }) generation

pub only-fetch : FetchIsTheOnlyOne
only-fetch count guests is by v one other vcpu slot may more =
    let there : is_here (fetch_from (guests.bodies one.generation.slot other.row) v.birth v.context.pc) ≡ true =
    subst (λ g. is_here (fetch_from (guests.bodies g other.row) v.birth v.context.pc) ≡ true) (sym slot) (fetch-there guests by v other more) in
    fetch-same one other vcpu
    (fetch-once count guests is one.generation.slot one.row other.row v.birth v.context.pc (fetch-there guests by v one may) there)
    (generation-same one.generation other.generation slot (may.vcpu.2 ∙ sym more.vcpu.2))

pub fetch-or-fault : FetchOrFault
fetch-or-fault count guests is by v fetch fault slot address size may fails =
    let ws = (guests.spaces fault.generation.slot).windows in
    let none : reached (guests.spaces fetch.generation.slot).windows v.context.pc 4 ≡ None =
    subst (λ g. reached (guests.spaces g).windows v.context.pc 4 ≡ None) slot
    (subst (λ n. reached ws v.context.pc n ≡ None) size (subst (λ a. reached ws a fault.size ≡ None) address fails.space)) in
    false-true (sym (no-fetch count guests is fetch.generation.slot fetch.row v.birth v.context.pc none) ∙ fetch-there guests by v fetch may)

pub only-access : AccessIsTheOnlyOne
only-access count guests is one other some same may more =
    let there : is_here (answer_to (guests.bodies one.generation.slot other.row) one) ≡ true =
    subst (λ x. is_here (answer_to (guests.bodies x.generation.slot other.row) x) ≡ true) same (access-there guests other more) in
    let row : one.row ≡ other.row = access-once count guests is one.generation.slot one.row other.row one some (access-there guests one may) there in
    ap (λ n. record one { row = n }) row ∙ sym same

pub access-or-fault : AccessOrFault
access-or-fault count guests is access fault some slot address size may fails =
    let ws = (guests.spaces fault.generation.slot).windows in
    let none : reached (guests.spaces access.generation.slot).windows access.address access.size ≡ None =
    subst (λ g. reached (guests.spaces g).windows access.address access.size ≡ None) slot
    (subst (λ n. reached ws access.address n ≡ None) size (subst (λ a. reached ws a fault.size ≡ None) address fails.space)) in
    false-true (sym (no-access count guests is access.generation.slot access.row access some none) ∙ access-there guests access may)
