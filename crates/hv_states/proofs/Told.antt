-- What is told of all VCPUs, as events are taken one after the other.
use Rattle.std.proofs.Common.{◌≡◌, ◌≢◌, ℕ, ◌+◌, ◌<◌, ◌≤◌, inl, inr, Option, None, Some, List, [], ◌∷◌, ◌++◌, map, length, get_or, set, take, refl, ap, sym, ◌∙◌, arith, length-set}
use Rattle.std.proofs.lemmas.Bool.{cases_eq, eq-eqb, ne_eqb}
use Rattle.std.proofs.lemmas.List.{append-nil, append_assoc, get_or-map, get_or-set_same, get_or-set_other, length-map, map-append, map-set, set_past, take_more}
use Rattle.std.proofs.lemmas.List.Elements.{filter_map-append}
use Rattle.std.proofs.lemmas.List.FromFn.{fill_by_all, get_or-map-range_with_len, length-map-range_with_len, map-range_with_len_more}
use Rattle.std.specs.List.{cons_option, range_with_len}
use Rattle.std.specs.Option.{option_to_list}
use Rattle.hv_event.specs.declared.event.Event.{Event}
use Rattle.hv_kinds.specs.declared.state.State.{State}
use Rattle.hv_model.specs.States.{changes_of, first_states, if_of, led_to, states_of}
use Rattle.hv_text.specs.declared.limits.TheConstants.{VCPUS}
use Rattle.hv_states.specs.ByNumber.{by_number, with_change}

-- an item that is changed is changed among what f gives of all
pub map-changed : {X Y : Type 0} (f : X → Y) (g : Y → Y) (xs : List X) (i : ℕ) (old new : X) (d : Y)
    → i < length xs → old ≡ get_or xs i old → f new ≡ g (f old)
    → map f (set xs i new) ≡ set (map f xs) i (g (get_or (map f xs) i d))
map-changed f g xs i old new d low here is =
    map-set f xs i new ∙ ap (set (map f xs) i) (is ∙ ap g (ap f here ∙ sym (get_or-map f xs i old d low)))

-- a state is put behind those of a VCPU that there is
pub pushed-there : {X : Type 0} (f : X → List State) (xs : List X) (now : List (List State)) (i v : ℕ) (old new : X) (state : State)
    → map f xs ≡ now → i ≡ v → i < length xs → old ≡ get_or xs i old → f new ≡ f old ++ state ∷ []
    → map f (set xs i new) ≡ set now v (get_or now v [] ++ state ∷ [])
pushed-there f xs now i v old new state seen is low here put =
    map-changed f (λ states. states ++ state ∷ []) xs i old new [] low here put
    ∙ (ap (λ lists. set lists i (get_or lists i [] ++ state ∷ [])) seen ∙ ap (λ k. set now k (get_or now k [] ++ state ∷ [])) is)

-- and nothing changes past the VCPUs
pub pushed-past : {X : Type 0} (f : X → List State) (xs : List X) (now : List (List State)) (i v : ℕ) (states : List State)
    → map f xs ≡ now → i ≡ v → length xs ≤ i → map f xs ≡ set now v states
pushed-past f xs now i v states seen is low =
    let long : length now ≡ length xs = ap length (sym seen) ∙ length-map xs f in
    seen ∙ sym (set_past now v states (omega (arith, is, low, long)))

-- the states of one VCPU more stand behind those of the others
pub map-pushed : {X Y : Type 0} (f : X → Y) (g : ℕ → Y) (xs : List X) (x : X) (n : ℕ)
    → map f xs ≡ map g (range_with_len 0 n) → f x ≡ g n → map f (xs ++ x ∷ []) ≡ map g (range_with_len 0 (n + 1))
map-pushed f g xs x n before is =
    map-append f xs (x ∷ [])
    ∙ (ap (λ ys. ys ++ f x ∷ []) before
    ∙ (ap (λ y. map g (range_with_len 0 n) ++ y ∷ []) is
    ∙ sym (map-range_with_len_more g 0 n n (omega arith))))

-- the states of a VCPU, with one more where it is the one that is changed
more : (ℕ → List State) → Option (ℕ × State) → (vcpu : ℕ) → List State
more states led vcpu = states vcpu ++ option_to_list (if_of vcpu led)

more-here : (states : ℕ → List State) (led : ℕ × State) (v : ℕ) → v ≡ led.0 → more states (Some led) v ≡ states v ++ led.1 ∷ []
unfolding more
more-here states led v is = rw (eq-eqb v led.0 is) refl

more-there : (states : ℕ → List State) (led : ℕ × State) (v : ℕ) → v ≢ led.0 → more states (Some led) v ≡ states v
unfolding more
more-there states led v other = rw (ne_eqb v led.0 other) (append-nil (states v))

more-none : (states : ℕ → List State) (v : ℕ) → more states None v ≡ states v
unfolding more
more-none states v = append-nil (states v)

-- a state that is put behind those of its VCPU leaves the others as they were, of so many VCPUs
set-more : (states : ℕ → List State) (led : ℕ × State) (n : ℕ)
    → set (map states (range_with_len 0 n)) led.0 (get_or (map states (range_with_len 0 n)) led.0 [] ++ led.1 ∷ [])
    ≡ map (more states (Some led)) (range_with_len 0 n)
set-more states led n =
    let lists = map states (range_with_len 0 n) in
    let long : length lists ≡ n = length-map-range_with_len states 0 n in
    let put = get_or lists led.0 [] ++ led.1 ∷ [] in
    let at : (k : ℕ) → k < n → get_or lists k [] ≡ states k = λ k low. get_or-map-range_with_len states 0 n k k [] low (omega arith) in
    let here : (k : ℕ) → k < n → get_or (set lists led.0 put) k [] ≡ more states (Some led) k = λ k low.
    elim (cases_eq k led.0) [
      | inl is ↦
          ap (λ j. get_or (set lists led.0 put) j []) is
          ∙ (get_or-set_same lists led.0 put [] (omega (arith, is, low, long))
          ∙ (ap (λ s. s ++ led.1 ∷ []) (ap (λ j. get_or lists j []) (sym is) ∙ at k low) ∙ sym (more-here states led k is)))
      | inr other ↦ get_or-set_other lists led.0 k put [] other ∙ (at k low ∙ sym (more-there states led k other))
    ]
    in
    fill_by_all (more states (Some led)) (set lists led.0 put) n [] (length-set lists led.0 put ∙ long) here

-- a state that is led to is told of its VCPU
with_change-more : (states : ℕ → List State) (led : Option (ℕ × State)) → with_change (by_number states) led ≡ by_number (more states led)
with_change-more states None = ap by_number (λ i v. sym (more-none states v) i)
with_change-more states (Some led) = set-more states led VCPUS

-- what there is of one, as a list
as-option : {X : Type 0} (one : Option X) → option_to_list one ≡ cons_option one []
as-option None = refl
as-option (Some x) = refl

-- what an event leads to is told behind what led there
more-event : (H : List Event) (e : Event) (v : ℕ) → more (states_of H) (led_to e.actor e.step e.reply) v ≡ states_of (H ++ e ∷ []) v
unfolding more
more-event H e v =
    let of : Event → Option State = λ e. if_of v (led_to e.actor e.step e.reply) in
    append_assoc (first_states v) (changes_of H v) (option_to_list (of e))
    ∙ ap (λ states. first_states v ++ states) (ap (λ states. changes_of H v ++ states) (as-option (of e)) ∙ sym (filter_map-append of H (e ∷ [])))

-- an event more is told
with_change-event : (H : List Event) (e : Event) → with_change (by_number (states_of H)) (led_to e.actor e.step e.reply) ≡ by_number (states_of (H ++ e ∷ []))
with_change-event H e = with_change-more (states_of H) (led_to e.actor e.step e.reply) ∙ ap by_number (λ i v. more-event H e v i)

-- and one more of a history
pub read-more : (H : List Event) (n : ℕ) (e : Event) (old new : List (List State)) → n < length H → e ≡ get_or H n e
    → old ≡ by_number (states_of (take n H)) → new ≡ with_change old (led_to e.actor e.step e.reply)
    → new ≡ by_number (states_of (take (n + 1) H))
read-more H n e old new low is before taken =
    let further : take (n + 1) H ≡ take n H ++ e ∷ [] = take_more H n e low ∙ ap (λ f. take n H ++ f ∷ []) (sym is) in
    taken
    ∙ (ap (λ lists. with_change lists (led_to e.actor e.step e.reply)) before
    ∙ (with_change-event (take n H) e ∙ ap (λ K. by_number (states_of K)) (sym further)))
