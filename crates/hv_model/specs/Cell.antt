-- The cells of the hypervisor: its components and its actors.
use Rattle.std.specs.Prelude.{ℕ, ◌+◌, ◌^◌, ◌==◌, ◌&&◌, Bool, true, false}
use Rattle.hv_event.specs.declared.event.CellId.{CellId}
use Rattle.hv_event.specs.declared.event.CellId.TheVariants as component
use Rattle.hv_event.specs.declared.event.ActorId.{ActorId}
use Rattle.hv_event.specs.declared.event.ActorId.TheVariants.{Hart, Terminal}

-- A cell is a component or an actor.
pub data Cell : Type 0 where
  Component : CellId → Cell
  Actor : ActorId → Cell

-- Two components are the same where their kinds and their numbers are.
abbrev pub same_component : CellId → CellId → Bool
same_component component.Dir component.Dir = true
same_component component.Shelf component.Shelf = true
same_component component.Files component.Files = true
same_component (component.Space g) (component.Space k) = g == k
same_component (component.Queue h) (component.Queue k) = h == k
same_component (component.Vcpu v) (component.Vcpu k) = v == k
same_component (component.Body g j) (component.Body k l) = (g == k) && (j == l)
same_component (component.Area a) (component.Area k) = a == k
same_component _ _ = false

-- Two actors are the same where their kinds and their numbers are.
abbrev pub same_actor : ActorId → ActorId → Bool
same_actor (Hart g) (Hart h) = g == h
same_actor (Terminal t) (Terminal u) = t == u
same_actor (Hart h) (Terminal t) = false
same_actor (Terminal t) (Hart h) = false

-- Two cells are the same where they are the same component or the same actor.
abbrev pub same_cell : Cell → Cell → Bool
same_cell (Component x) (Component y) = same_component x y
same_cell (Actor a) (Actor b) = same_actor a b
same_cell (Component x) (Actor a) = false
same_cell (Actor a) (Component x) = false

-- Whether a cell is an actor.
abbrev pub is_actor : Cell → Bool
is_actor (Component x) = false
is_actor (Actor a) = true

-- Among events of one stamp those of harts come first, then those of terminals, each kind by number.
abbrev pub rank_of : Cell → ℕ
rank_of (Component x) = 0
rank_of (Actor (Hart h)) = h
rank_of (Actor (Terminal t)) = 2 ^ 8 + t
