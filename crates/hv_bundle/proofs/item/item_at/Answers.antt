use Rattle.std.proofs.Common.{◌≡◌, ℕ, List, ◌∷◌, ◌++◌, length, sym, ap, ◌∙◌}
use Rattle.hv_bundle.proofs.Items.{none_at_word, none_at_path, none_at_digits, none_at_size, none_at_body, item_found}
use Rattle.hv_bundle.proofs.item.item_at.Goals as goal

pub returns-in_default-word_at : goal.returns-in_default-word_at
returns-in_default-word_at c = none_at_word c.args.text.now c.in-Some.rest.now c.in-Some.ensures c.in_default-word_at.ensures

pub returns-in_default-2 : goal.returns-in_default-2
returns-in_default-2 c =
    none_at_path c.args.text.now c.in-Some.rest.now c.in-Some-word_at.path.now c.in-Some-word_at.rest.now c.in-Some.ensures c.in-Some-word_at.ensures.0 c.in-Some-word_at.ensures.1 (rw c.in_default-2.is at c.in_ok-path.ensures)

pub returns-in_default-word_at-2 : goal.returns-in_default-word_at-2
returns-in_default-word_at-2 c =
    none_at_digits c.args.text.now c.in-Some.rest.now c.in-Some-word_at.path.now c.in-Some-word_at.rest.now c.in-Some.ensures c.in-Some-word_at.ensures.0 c.in-Some-word_at.ensures.1 c.in_default-word_at-2.ensures

pub returns-in_default-3 : goal.returns-in_default-3
returns-in_default-3 c =
    none_at_size c.args.text.now c.in-Some.rest.now c.in-Some-word_at.path.now c.in-Some-word_at.rest.now c.in-Some-word_at-2.digits.now c.in-Some-word_at-2.rest.now c.in-Some.ensures c.in-Some-word_at.ensures.0 c.in-Some-word_at.ensures.1
    c.in-Some-word_at-2.ensures.0 c.in-Some-word_at-2.ensures.1 (rw c.in_default-3.is at c.in_ok-length.ensures)

pub returns-in_default-body_at : goal.returns-in_default-body_at
returns-in_default-body_at c =
    none_at_body c.args.text.now c.in-Some.rest.now c.in-Some-word_at.path.now c.in-Some-word_at.rest.now c.in-Some-word_at-2.digits.now c.in-Some-word_at-2.rest.now c.in-Some-3.length c.in-Some.ensures c.in-Some-word_at.ensures.0 c.in-Some-word_at.ensures.1
    c.in-Some-word_at-2.ensures.0 c.in-Some-word_at-2.ensures.1 (rw c.in-Some-3.is at c.in_ok-length.ensures) c.in_default-body_at.ensures

pub returns : goal.returns
returns c =
    let bytes : c.from_vec-bytes.result ≡ c.in-Some-body_at.bytes.now = c.from_vec-bytes.ensures ∙ c.in_ok-from_slice.ensures.items in
    item_found c.args.text.now c.in-Some.rest.now c.in-Some-word_at.path.now c.in-Some-word_at.rest.now c.in-Some-word_at-2.digits.now c.in-Some-word_at-2.rest.now c.in-Some-body_at.rest.now c.in-Some-3.length
    (record { path = c.in-Some-2.path; bytes = c.from_vec-bytes.result }) c.in-Some.ensures c.in-Some-word_at.ensures.1 c.in-Some-word_at-2.ensures.1 (rw c.in-Some-3.is at c.in_ok-length.ensures) (rw c.in-Some-2.is at c.in_ok-path.ensures)
    (ap length bytes ∙ c.in-Some-body_at.ensures.0) (c.in-Some-body_at.ensures.1 ∙ ap (λ (t : List ℕ). t ++ 10 ∷ c.in-Some-body_at.rest.now) (sym bytes))
