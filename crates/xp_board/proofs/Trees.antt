-- What no lawful tree of page tables has.
use Rattle.std.proofs.Common.{◌≡◌, ℕ, ◌<◌, ◌≤◌, IsTrue, subst, arith}
use Rattle.std.proofs.lemmas.Bool.Decides.{nat_tests}
use Rattle.xp_words.specs.Entries.{demand_at}
use Rattle.xp_words.specs.Machine.{Machine}
use Rattle.xp_words.specs.PageTypes.{is_table}
use Rattle.xp_words.specs.declared.entry.Demand.TheVariants.{Typed}
use Rattle.xp_words.specs.declared.kind.PageType.{PageType}
use Rattle.xp_words.specs.declared.kind.PageType.TheVariants.{Writable}
use Rattle.xp_words.specs.declared.place.Place.{Place}
use Rattle.xp_words.specs.declared.place.Place.TheVariants.{Cell, Refs}
use Rattle.xp_board.specs.Lawful.{Lawful, root, below}
use Rattle.xp_board.specs.Lists.{one_at}
use Rattle.xp_board.specs.Readings.{kind_at, is_dead, ref_count}

-- a frame has one type in the tree
pub not_writable_itself : (n : Machine) (owner f i : ℕ) (m : Place → ℕ) (t : PageType) → IsTrue (is_dead (kind_at m f)) → IsTrue (is_table t) → i < 512 →
    demand_at t i (m (Cell f i)) ≡ Typed f Writable → Lawful n owner m f t → ⊥
not_writable_itself n owner f i m t dead table few asks l =
    let same = l.one_type f t Writable root (below f i f t Writable root dead table few asks) in
    let none = subst (λ u. IsTrue (is_table u)) same table in cc

one_here : (f : ℕ) → 1 ≤ one_at f f
one_here f = grind (arith, nat_tests)

-- the count of the top frame has room for one more
pub top_has_room : (n : Machine) (owner f : ℕ) (m : Place → ℕ) (t : PageType) → Lawful n owner m f t → ref_count (m (Refs f)) < n.limit
top_has_room n owner f m t l =
    let own = l.typed f t root in
    let sum = l.within f owner own.inside own.owned in
    let one = one_here f in
    omega arith
