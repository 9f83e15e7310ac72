-- Each step of a hart is answered in one way, and hands over one thing.
use Rattle.std.proofs.Common.{◌≡◌, ℕ, zero, suc, ◌+◌, ◌<◌, ◌≤◌, ◌==◌, nat_lt, Bool, true, false, if◌then◌else◌, List, [], ◌∷◌, ◌++◌, map, length, get_or, refl, sym, ap, subst, ◌∙◌, arith, eqb-true, eq-eqb}
use Rattle.std.specs.Prelude.{Option, None, Some, IsSomeAnd, nat_le}
use Rattle.std.specs.List.{AllByRecursion, list_all, range_with_len}
use Rattle.hv_answer.specs.declared.reply.Outcome.{Outcome}
use Rattle.hv_answer.specs.declared.reply.Reply.{Reply}
use Rattle.hv_answer.specs.declared.reply.Reply.TheVariants as reply
use Rattle.hv_body.specs.declared.place.Answer.{Answer}
use Rattle.hv_body.specs.declared.place.Answer.TheVariants.{Answered, Denied, NoExec, InArea, NotHere}
use Rattle.hv_event.specs.declared.event.ActorId.TheVariants.{Hart}
use Rattle.hv_event.specs.declared.event.CellId.{CellId}
use Rattle.hv_event.specs.declared.event.CellId.TheVariants as component
use Rattle.hv_exec.specs.declared.context.After.{After}
use Rattle.hv_exec.specs.declared.context.After.TheVariants as after
use Rattle.hv_kinds.specs.declared.changes.SignalChanges.{SignalChanges}
use Rattle.hv_kinds.specs.declared.generation.Generation.{Generation}
use Rattle.hv_machine.specs.Machine.{State}
use Rattle.hv_model.specs.Cell.{Cell, Component}
use Rattle.hv_model.specs.declared.entry.Entry.{Entry}
use Rattle.hv_model.specs.Origin.{Origin}
use Rattle.hv_model.specs.Rules.{machine, IsAllowedAt}
use Rattle.hv_next.proofs.Guests.{Agreed as TerminalAgreed, At as TerminalAt, both, pinned-once, readied, sampled-once}
use Rattle.hv_queue.specs.declared.entry.QueueEntry.{QueueEntry}
use Rattle.hv_rules.specs.Area.{value_read}
use Rattle.hv_rules.specs.Balance.{first_place, is_uneven, longest, told_move}
use Rattle.hv_rules.specs.Body.{BodyValue, ShowsAccess, ShowsWord, accessed, answer_to, area_in, changes, fetch_from, left_by, no_changes, word_of}
use Rattle.hv_rules.specs.Carry.{Carry, Pending, nothing}
use Rattle.hv_rules.specs.Footprint.{clock_body, components, shared_area}
use Rattle.hv_rules.specs.Handed.{handed_over}
use Rattle.hv_rules.specs.Queue.{SaysMoved}
use Rattle.hv_rules.specs.Space.{Ticks}
use Rattle.hv_rules.specs.Vcpu.{AgreesToFetch, Shows, TakesInterrupt, pending_of}
use Rattle.hv_step.specs.declared.step.Access.{Access}
use Rattle.hv_step.specs.declared.step.Fault.{Fault}
use Rattle.hv_step.specs.declared.step.Fetch.{Fetch}
use Rattle.hv_step.specs.declared.step.Step.{Step}
use Rattle.hv_step.specs.declared.step.Step.TheVariants as step
use Rattle.hv_body.specs.Memory.{number_at}
use Rattle.hv_vcpu.specs.Instruction.{carried_out}
use Rattle.hv_vcpu.specs.Vcpu.{VcpuValue}

-- what ticks, balances, fetches and accesses hand over
abbrev pub ticking : Option (ℕ × ℕ) → Option (ℕ × ℕ) → Carry
ticking clock parent = record nothing { clock = clock; parent = parent }

abbrev pub balancing : List ℕ → Option QueueEntry → Carry
balancing lengths moved = record nothing { lengths = lengths; moved = moved }

abbrev pub fetching : Option ℕ → Option Pending → Option (ℕ × ℕ) → Carry
fetching pc pending area = record nothing { pc = pc; pending = pending; area = area }

abbrev pub accessing : Option Pending → Option (ℕ × ℕ) → Option (ℕ × ℕ) → Carry
accessing pending area parent = record nothing { pending = pending; area = area; parent = parent }

-- an instruction comes to one outcome
shows-once : (answer : After) (one other : Outcome) → Shows answer one → Shows answer other → one ≡ other
shows-once after.System one other h k = absurd h
shows-once after.Done one other h k = both h k
shows-once after.Wait one other h k = both h k
shows-once (after.Load address size is_signed register) one other h k = both h k
shows-once (after.Store address size value) one other h k = both h k
shows-once (after.Trap cause value) one other h k = both h k

fetch-by : (v : VcpuValue) (r q : Reply) (c d : Carry) → AgreesToFetch v r c → AgreesToFetch v q d → word_of r ≡ word_of q → (r ≡ q) × (c.pending ≡ d.pending)
fetch-by v (reply.Fetch None) (reply.Fetch None) c d h k words = (refl, both h k)
fetch-by v (reply.Fetch None) (reply.Fetch (Some other)) c d h k words = absurd (cc words)
fetch-by v (reply.Fetch None) q c d h k words = absurd k
fetch-by v (reply.Fetch (Some one)) (reply.Fetch None) c d h k words = absurd (cc words)
fetch-by v (reply.Fetch (Some one)) (reply.Fetch (Some other)) c d h k words =
    let word : one.word ≡ other.word = some-same one.word other.word words in
    let shown = subst (λ (w : ℕ). Shows (carried_out v.context w).answer other.outcome) (sym word) k.0 in
    let outcome : one.outcome ≡ other.outcome = shows-once (carried_out v.context one.word).answer one.outcome other.outcome h.0 shown in
    let left = ap (λ (w : ℕ). pending_of (carried_out v.context w).answer) word in
    ((λ i. reply.Fetch (Some (record { word = word i; outcome = outcome i }))), h.1 ∙ left ∙ sym k.1)
  where
    some-same : (a b : ℕ) → Some a ≡ Some b → a ≡ b
    some-same a b is = cc
fetch-by v (reply.Fetch (Some one)) q c d h k words = absurd k
fetch-by v r q c d h k words = absurd h

takes-once : (cause : Option ℕ) (r q : Reply) → TakesInterrupt cause r → TakesInterrupt cause q → r ≡ q
takes-once None r q h k = absurd h
takes-once (Some cause) r q h k = both h k

moves-once : (uneven : Bool) (queue : List QueueEntry) (one other : Option QueueEntry) → SaysMoved true uneven queue one → SaysMoved true uneven queue other → one ≡ other
moves-once false queue one other h k = both h k
moves-once true queue one other h k = both h k

-- lists by their elements
lists-same : (xs ys : List ℕ) → length xs ≡ length ys → ((g : ℕ) → g < length xs → get_or xs g 0 ≡ get_or ys g 0) → xs ≡ ys
lists-same [] [] same each = refl
lists-same [] (y ∷ ys) same each = absurd (cc same)
lists-same (x ∷ xs) [] same each = absurd (cc same)
lists-same (x ∷ xs) (y ∷ ys) same each =
    let head : x ≡ y = each 0 (omega arith) in
    let lengths : length xs ≡ length ys = less (length xs) (length ys) same in
    let tail : xs ≡ ys = lists-same xs ys lengths (λ g l. each (suc g) (omega arith)) in
    λ i. head i ∷ tail i
  where
    less : (a b : ℕ) → suc a ≡ suc b → a ≡ b
    less a b is = omega arith

pub place-below : (fits : ℕ → ℕ → Bool) (n : ℕ) (ns : List ℕ) → first_place fits (n ∷ ns) < length (n ∷ ns)
place-below fits n [] = omega arith
place-below fits n (m ∷ ns) =
    let rest = place-below fits m ns in
    elim (list_all (fits n) (m ∷ ns)) as (λ (b : Bool). (if b then 0 else first_place fits (m ∷ ns) + 1) < suc (length (m ∷ ns))) [ true ↦ omega arith | false ↦ omega arith ]

pub longest-below : (lengths : List ℕ) → 0 < length lengths → longest lengths < length lengths
longest-below [] some = absurd (omega arith)
longest-below (n ∷ ns) some = place-below (λ n k. nat_le k n) n ns

-- the queues of all harts
pub queue-agrees : (P : Cell → Type 0) (b n : ℕ) (cs : List CellId) (g : ℕ) → b ≤ g → g < b + n → AllByRecursion P (map Component (map component.Queue (range_with_len b n) ++ cs)) → P (Component (component.Queue g))
queue-agrees P b zero cs g from to all = absurd (omega arith)
queue-agrees P b (suc n) cs g from to all =
    let Goal : Bool → Type 0 = λ t. (g == b) ≡ t → P (Component (component.Queue g)) in
    elim (g == b) as Goal [
      | true ↦ λ is. subst (λ (z : ℕ). P (Component (component.Queue z))) (sym (eqb-true g b is)) all.0
      | false ↦ λ is. let more = above b g from is in queue-agrees P (b + 1) n cs g (omega arith) (omega arith) all.1
    ] refl
  where
    above : (b g : ℕ) → b ≤ g → (g == b) ≡ false → b < g
    above b g l is = grind arith

pub last-agrees : (P : Cell → Type 0) (qs : List CellId) (x : CellId) → AllByRecursion P (map Component (qs ++ x ∷ [])) → P (Component x)
last-agrees P [] x h = h.0
last-agrees P (q ∷ qs) x h = last-agrees P qs x h.1

module _ (O : Origin) (s : State (machine O)) (h : ℕ) where
  abbrev pub by : Step → Reply → Carry → Entry
  by st r c = record { event = record { actor = Hart h; index = 0; stamp = 0; step = st; reply = r }; carry = c }

  abbrev pub At : Step → Reply → Carry → Cell → Type 0
  At st r c x = IsAllowedAt x (s x).value (by st r c)

  -- the components agree to a step of the hart
  abbrev pub Agreed : Step → Reply → Carry → Type 0
  Agreed st r c = AllByRecursion (At st r c) (map Component (components O.opening.harts (Hart h) st r c))

  -- and it hands over what its row names
  abbrev pub Does : Step → Reply → Carry → Type 0
  Does st r c = (c ≡ handed_over st c) × Agreed st r c

  as-handed : (st : Step) (r : Reply) (c : Carry) → Does st r c → Agreed st r (handed_over st c)
  as-handed st r c does = subst (λ (k : Carry). Agreed st r k) does.0 does.1

  abbrev body : ℕ → ℕ → BodyValue
  body slot row = (s (Component (component.Body slot row))).value

  abbrev vcpu : ℕ → VcpuValue
  vcpu v = (s (Component (component.Vcpu v))).value

  abbrev bytes_of : ℕ → List ℕ
  bytes_of area = (s (Component (component.Area area))).value

  abbrev OneAnswer : Reply → Reply → Carry → Carry → Type 0
  OneAnswer r q c d = (r ≡ q) × (c ≡ d)

  -- a step that hands over nothing
  alone : (st : Step) (r q : Reply) (c d : Carry) → ((z : Carry) → handed_over st z ≡ nothing) → Does st r c → Does st q d → r ≡ q → OneAnswer r q c d
  alone st r q c d none a b same = (same, both (a.0 ∙ none c) (b.0 ∙ none d))

  -- samples and pins
  abbrev sample : (row parent source : ℕ) → Generation → Step
  sample row parent source g = step.Sample (record { row = row; parent = parent; source = source; generation = g })

  by-terminal : (row parent source : ℕ) (g : Generation) (r : Reply) (c : Carry) (b : Bool) (one other : List CellId)
      → (AllByRecursion (At (sample row parent source g) r c) (map Component one) → AllByRecursion (TerminalAt O s 0 (sample row parent source g) r c) (map Component one))
      → (AllByRecursion (At (sample row parent source g) r c) (map Component other) → AllByRecursion (TerminalAt O s 0 (sample row parent source g) r c) (map Component other))
      → AllByRecursion (At (sample row parent source g) r c) (map Component (if b then one else other))
      → AllByRecursion (TerminalAt O s 0 (sample row parent source g) r c) (map Component (if b then one else other))
  by-terminal row parent source g r c true one other f k = f
  by-terminal row parent source g r c false one other f k = k

  terminal-sample : (row parent source : ℕ) (g : Generation) (r : Reply) (c : Carry) → Agreed (sample row parent source g) r c → TerminalAgreed O s 0 (sample row parent source g) r c
  terminal-sample row parent source g r c agreed =
      by-terminal row parent source g r c (nat_lt row parent)
      (component.Body g.slot row ∷ component.Body g.slot parent ∷ []) (component.Body g.slot parent ∷ component.Body g.slot row ∷ [])
      (λ x. x) (λ x. x) agreed

  pub sample-once : (row parent source : ℕ) (g : Generation) (r q : Reply) (c d : Carry) → Does (sample row parent source g) r c → Does (sample row parent source g) q d → OneAnswer r q c d
  sample-once row parent source g r q c d a b =
      alone (sample row parent source g) r q c d (λ z. refl) a b
      (sampled-once O s 0 row parent source g r q c d (terminal-sample row parent source g r c a.1) (terminal-sample row parent source g q d b.1))

  pub pin-once : (row v : ℕ) (g : Generation) (r q : Reply) (c d : Carry)
      → Does (step.Pin (record { row = row; vcpu = v; generation = g })) r c → Does (step.Pin (record { row = row; vcpu = v; generation = g })) q d → OneAnswer r q c d
  pin-once row v g r q c d a b =
      let st = step.Pin (record { row = row; vcpu = v; generation = g }) in
      let same = pinned-once O s 0 row v g r q c.priority d.priority (as-handed st r c a) (as-handed st q d b) in
      (same.0, a.0 ∙ ap readied same.1 ∙ sym b.0)

  -- ticks
  abbrev tick : ℕ → Step
  tick slot = step.Tick (record { slot = slot })

  abbrev ClockAgrees : ℕ → Option (ℕ × ℕ) → Option (ℕ × ℕ) → Reply → Type 0
  ClockAgrees slot clock parent r = AllByRecursion (At (tick slot) r (ticking clock parent)) (map Component (clock_body slot clock))

  tick-by : (slot : ℕ) (found one other p q : Option (ℕ × ℕ)) (r u : Reply) → Ticks found r (ticking one p) → Ticks found u (ticking other q)
      → ClockAgrees slot one p r → ClockAgrees slot other q u → OneAnswer r u (ticking one p) (ticking other q)
  tick-by slot None one other p q r u h k x y = (both h.0 k.0, λ i. ticking (both h.1 k.1 i) (both h.2 k.2 i))
  tick-by slot (Some clock) one other p q r u h k x y =
      let here = subst (λ (z : Option (ℕ × ℕ)). ClockAgrees slot z p r) h x in
      let there = subst (λ (z : Option (ℕ × ℕ)). ClockAgrees slot z q u) k y in
      (both here.0.0 there.0.0, λ i. ticking (both h k i) (both here.0.1 there.0.1 i))

  pub tick-once : (slot : ℕ) (r q : Reply) (c d : Carry) → Does (tick slot) r c → Does (tick slot) q d → OneAnswer r q c d
  tick-once slot r q c d a b =
      let one = as-handed (tick slot) r c a in
      let other = as-handed (tick slot) q d b in
      let same = tick-by slot (s (Component (component.Space slot))).value.clock c.clock d.clock c.parent d.parent r q one.0 other.0 one.1 other.1 in
      (same.0, a.0 ∙ same.1 ∙ sym b.0)

  -- steps of the hart's queue
  pub idle-once : (r q : Reply) (c d : Carry) → Does (step.Idle (record {})) r c → Does (step.Idle (record {})) q d → OneAnswer r q c d
  idle-once r q c d a b = alone (step.Idle (record {})) r q c d (λ z. refl) a b (both a.1.0.1 b.1.0.1)

  pub dispatch-once : (v : ℕ) (r q : Reply) (c d : Carry) → Does (step.Dispatch (record { vcpu = v })) r c → Does (step.Dispatch (record { vcpu = v })) q d → OneAnswer r q c d
  dispatch-once v r q c d a b = alone (step.Dispatch (record { vcpu = v })) r q c d (λ z. refl) a b (both a.1.1.0 b.1.1.0)

  pub preempt-once : (v : ℕ) (r q : Reply) (c d : Carry) → Does (step.Preempt (record { vcpu = v })) r c → Does (step.Preempt (record { vcpu = v })) q d → OneAnswer r q c d
  preempt-once v r q c d a b = (both a.1.1.0.1 b.1.1.0.1, a.0 ∙ ap readied (both a.1.1.0.2 b.1.1.0.2) ∙ sym b.0)

  -- steps of its VCPU
  pub leave-once : (v : ℕ) (r q : Reply) (c d : Carry) → Does (step.Leave (record { vcpu = v })) r c → Does (step.Leave (record { vcpu = v })) q d → OneAnswer r q c d
  leave-once v r q c d a b = alone (step.Leave (record { vcpu = v })) r q c d (λ z. refl) a b (both a.1.0.1 b.1.0.1)

  pub take-once : (v : ℕ) (r q : Reply) (c d : Carry) → Does (step.Take (record { vcpu = v })) r c → Does (step.Take (record { vcpu = v })) q d → OneAnswer r q c d
  take-once v r q c d a b = alone (step.Take (record { vcpu = v })) r q c d (λ z. refl) a b (takes-once _ r q a.1.0.1 b.1.0.1)

  pub fault-once : (x : Fault) (r q : Reply) (c d : Carry) → Does (step.Fault x) r c → Does (step.Fault x) q d → OneAnswer r q c d
  fault-once x r q c d a b = alone (step.Fault x) r q c d (λ z. refl) a b (both a.1.1.0.3 b.1.1.0.3)

  -- a balance is told of by each queue
  module _ (there : h < O.opening.harts) where
    abbrev balance : Step
    balance = step.Balance (record {})

    queue-says : (r : Reply) (lengths : List ℕ) (moved : Option QueueEntry) (g : ℕ) → g < O.opening.harts → Agreed balance r (balancing lengths moved)
        → At balance r (balancing lengths moved) (Component (component.Queue g))
    queue-says r lengths moved g l agreed = queue-agrees (At balance r (balancing lengths moved)) 0 O.opening.harts (component.Vcpu 0 ∷ []) g (omega arith) (omega arith) agreed

    pub balance-once : (r q : Reply) (c d : Carry) → length c.lengths ≡ O.opening.harts → length d.lengths ≡ O.opening.harts → Does balance r c → Does balance q d → OneAnswer r q c d
    balance-once r q c d many much a b =
        let one = as-handed balance r c a in
        let other = as-handed balance q d b in
        let lengths : c.lengths ≡ d.lengths =
        lists-same c.lengths d.lengths (both many much)
        (λ g l. let below : g < O.opening.harts = omega arith in both (queue-says r c.lengths c.moved g below one).0 (queue-says q d.lengths d.moved g below other).0) in
        let far = longest c.lengths in
        let some : longest c.lengths < length c.lengths = longest-below c.lengths (omega arith) in
        let below : far < O.opening.harts = omega arith in
        let second = subst (λ (z : List ℕ). Agreed balance q (balancing z d.moved)) (sym lengths) other in
        let says = (queue-says r c.lengths c.moved far below one) in
        let tells = (queue-says q c.lengths d.moved far below second) in
        let queue = (s (Component (component.Queue far))).value in
        let itself : (far == far) ≡ true = eq-eqb far far refl in
        let moved : c.moved ≡ d.moved =
        moves-once (is_uneven c.lengths) queue c.moved d.moved
        (subst (λ (t : Bool). SaysMoved t (is_uneven c.lengths) queue c.moved) itself says.1) (subst (λ (t : Bool). SaysMoved t (is_uneven c.lengths) queue d.moved) itself tells.1) in
        (says.2 ∙ ap (λ (z : Option QueueEntry). reply.Balance (told_move c.lengths z)) moved ∙ sym tells.2, a.0 ∙ (λ i. balancing (lengths i) (moved i)) ∙ sym b.0)

  -- a fetch is answered by the region's contents, or by the area that it shares
  abbrev said_word : Answer → Option ℕ
  said_word (Answered word) = Some word
  said_word (InArea number offset) = Some (number_at (bytes_of number) offset 4)
  said_word answer = None

  module _ (x : Fetch) where
    abbrev FetchedArea : Option ℕ → Option Pending → Option (ℕ × ℕ) → Reply → Type 0
    FetchedArea pc pending area r = AllByRecursion (At (step.Fetch x) r (fetching pc pending area)) (map Component (shared_area area))

    word-said : (answer : Answer) (pc : Option ℕ) (pending : Option Pending) (area : Option (ℕ × ℕ)) (r : Reply) → ShowsWord answer r → area ≡ area_in answer → FetchedArea pc pending area r
        → word_of r ≡ said_word answer
    word-said (Answered word) pc pending area r shows is agreed = shows
    word-said NoExec pc pending area r shows is agreed = ap word_of shows
    word-said (InArea number offset) pc pending area r shows is agreed = (subst (λ (z : Option (ℕ × ℕ)). FetchedArea pc pending z r) is agreed).0
    word-said Denied pc pending area r shows is agreed = absurd shows
    word-said NotHere pc pending area r shows is agreed = absurd shows

    abbrev FetchSays : Option ℕ → Option (ℕ × ℕ) → Reply → Type 0
    FetchSays pc area r =
        IsSomeAnd pc (λ at.
        let answer = fetch_from (body x.generation.slot x.row) x.generation.birth at in
        ShowsWord answer r × (area ≡ area_in answer))

    pub fetch-once : (r q : Reply) (c d : Carry) → Does (step.Fetch x) r c → Does (step.Fetch x) q d → OneAnswer r q c d
    fetch-once r q c d a b =
        let one = as-handed (step.Fetch x) r c a in
        let other = as-handed (step.Fetch x) q d b in
        let v = vcpu x.vcpu in
        let answer = fetch_from (body x.generation.slot x.row) x.generation.birth v.context.pc in
        let says = subst (λ (pc : Option ℕ). FetchSays pc c.area r) one.0.3 one.1.0 in
        let tells = subst (λ (pc : Option ℕ). FetchSays pc d.area q) other.0.3 other.1.0 in
        let words : word_of r ≡ word_of q =
        word-said answer c.pc c.pending c.area r says.0 says.1 one.1.1 ∙ sym (word-said answer d.pc d.pending d.area q tells.0 tells.1 other.1.1) in
        let same = fetch-by v r q (fetching c.pc c.pending c.area) (fetching d.pc d.pending d.area) one.0.4 other.0.4 words in
        (same.0, a.0 ∙ (λ i. fetching (both one.0.3 other.0.3 i) (same.1 i) (both says.1 tells.1 i)) ∙ sym b.0)

  -- and so is an access
  module _ (x : Access) where
    abbrev AccessedArea : Option Pending → Option (ℕ × ℕ) → Option (ℕ × ℕ) → Reply → Type 0
    AccessedArea pending area parent r = AllByRecursion (At (step.Access x) r (accessing pending area parent)) (map Component (shared_area area))

    abbrev said_access : Answer → SignalChanges → Reply
    said_access (Answered value) changed = reply.Access (Some (accessed value changed))
    said_access (InArea number offset) changed = reply.Access (Some (accessed (value_read (bytes_of number) x.direction offset x.size) no_changes))
    said_access answer changed = reply.Access None

    access-said : (answer : Answer) (changed : SignalChanges) (pending : Option Pending) (area parent : Option (ℕ × ℕ)) (r : Reply) → ShowsAccess answer changed r → area ≡ area_in answer
        → AccessedArea pending area parent r → r ≡ said_access answer changed
    access-said (Answered value) changed pending area parent r shows is agreed = shows
    access-said Denied changed pending area parent r shows is agreed = shows
    access-said (InArea number offset) changed pending area parent r shows is agreed = (subst (λ (z : Option (ℕ × ℕ)). AccessedArea pending z parent r) is agreed).0
    access-said NoExec changed pending area parent r shows is agreed = absurd shows
    access-said NotHere changed pending area parent r shows is agreed = absurd shows

    pub access-once : (r q : Reply) (c d : Carry) → c.pending ≡ d.pending → Does (step.Access x) r c → Does (step.Access x) q d → OneAnswer r q c d
    access-once r q c d pending a b =
        let one = as-handed (step.Access x) r c a in
        let other = as-handed (step.Access x) q d b in
        let here = body x.generation.slot x.row in
        let answer = answer_to here x in
        let changed = changes here (left_by here x) in
        let left = access-said answer changed c.pending c.area c.parent r one.1.0.0 one.1.0.1 one.1.1 in
        let right = access-said answer changed d.pending d.area d.parent q other.1.0.0 other.1.0.1 other.1.1 in
        (both left right, a.0 ∙ (λ i. accessing (pending i) (both one.1.0.1 other.1.0.1 i) (both one.1.0.2 other.1.0.2 i)) ∙ sym b.0)
