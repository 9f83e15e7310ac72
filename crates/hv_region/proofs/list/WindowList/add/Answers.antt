use Rattle.std.proofs.Common.{◌≡◌, ◌<◌, List, length, ap, subst, sym, ◌∙◌, arith, refl}
use Rattle.std.specs.List.{All, insert}
use Rattle.hv_region.specs.Windows.{AreWindows, Meets, HasNone, IsPutInto, IsPlaceFor}
use Rattle.hv_region.specs.declared.window.Window.{Window}
use Rattle.hv_region.proofs.Places.{put_well, put_into, room}
use Rattle.hv_region.proofs.Lists.{taken_if}
use Rattle.hv_region.proofs.list.WindowList.add.Goals as goal

pub invariant_of-self : goal.invariant_of-self
invariant_of-self c =
    let items = c.self.inside.items.items in
    let free : HasNone items c.args.window.owner = subst (λ (ws : List Window). HasNone ws c.args.window.owner) (sym c.self.view_is) c.requires.free in
    let apart : All (λ there. Meets there c.args.window → ⊥) items = subst (All (λ there. Meets there c.args.window → ⊥)) c.as_slice.ensures.value c.in_default.ensures in
    let at : IsPlaceFor items c.args.window c.place_for-place.result = subst (λ (ws : List Window). IsPlaceFor ws c.args.window c.place_for-place.result) c.as_slice-2.ensures.value c.place_for-place.ensures in
    let few : length items < 16 = room items c.args.window.owner c.args.window refl c.requires.owner c.self.invariant.0 free in
    let done = c.insert-placed.ensures.succeeds (omega (arith, few, c.self.invariant.1)) in
    let is : c.insert-placed.new.self.items ≡ insert items c.place_for-place.result c.args.window = taken_if _ _ _ _ done c.insert-placed.ensures.items in
    (subst AreWindows (sym is) (put_well items c.args.window c.place_for-place.result c.self.invariant.0 (c.if-not-is_in_range.ensures.0 refl) c.requires.some c.requires.owner free apart at), omega (arith, c.self.invariant.1, c.insert-placed.ensures.capacity))

pub returns : goal.returns
returns c =
    let items = c.self.inside.items.items in
    let free : HasNone items c.args.window.owner = subst (λ (ws : List Window). HasNone ws c.args.window.owner) (sym c.self.view_is) c.requires.free in
    let apart : All (λ there. Meets there c.args.window → ⊥) c.args.self.now = subst (All (λ there. Meets there c.args.window → ⊥)) (c.as_slice.ensures.value ∙ c.self.view_is) c.in_default.ensures in
    let few : length items < 16 = room items c.args.window.owner c.args.window refl c.requires.owner c.self.invariant.0 free in
    let done = c.insert-placed.ensures.succeeds (omega (arith, few, c.self.invariant.1)) in
    let is : c.insert-placed.new.self.items ≡ insert c.args.self.now c.place_for-place.result c.args.window =
    taken_if _ _ _ _ done c.insert-placed.ensures.items ∙ ap (λ (ws : List Window). insert ws c.place_for-place.result c.args.window) c.self.view_is in
    (c.if-not-is_in_range.ensures.0 refl, apart, subst (IsPutInto c.args.self.now c.args.window) (sym is) (put_into c.args.self.now c.args.window c.place_for-place.result))
