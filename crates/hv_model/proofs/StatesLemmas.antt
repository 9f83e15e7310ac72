-- What is told of VCPUs where no step changes one.
use Rattle.std.proofs.Common.{◌≡◌, ℕ, false, List, [], ◌∷◌, ◌++◌, codes, refl, ap, ◌∙◌}
use Rattle.std.specs.Fmt.{digits}
use Rattle.hv_event.specs.declared.event.Event.{Event}
use Rattle.hv_kinds.specs.declared.state.State.{State}
use Rattle.hv_model.specs.States.{ArePlain, changes_of, first_states, states_shown, states_text}

no-changes : (H : List Event) → ArePlain H → (vcpu : ℕ) → changes_of H vcpu ≡ []
no-changes [] plain vcpu = refl
no-changes (e ∷ es) plain vcpu = rw plain.0 (no-changes es plain.1 vcpu)

orphan-alone : states_shown false (λ v. first_states v ++ []) ≡ codes "states" ++ 10 ∷ codes "vcpu 0 Reset" ++ 10 ∷ []
unfolding digits
orphan-alone = refl

-- the orphan VCPU alone is told
pub plain-states : (H : List Event) → ArePlain H → states_text false H ≡ codes "states" ++ 10 ∷ codes "vcpu 0 Reset" ++ 10 ∷ []
plain-states H plain =
    let states : ◌≡◌ {A = ℕ → List State} (λ v. first_states v ++ changes_of H v) (λ v. first_states v ++ []) = λ i v. first_states v ++ no-changes H plain v i in
    ap (states_shown false) states ∙ orphan-alone
