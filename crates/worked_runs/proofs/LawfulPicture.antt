-- Small trees of page tables that are lawful, and that are not: a table of empty entries; the same where one more reference
-- is too many; a table that maps itself writable; one that is closing; and one over a partial one.
use Rattle.std.proofs.Common.{◌≡◌, ◌≢◌, ℕ, ◌+◌, ◌<◌, ◌≤◌, ◌==◌, if◌then◌else◌, Bool, true, false, Option, Some, None, [], ◌∷◌, IsTrue, refl, sym, ap, subst, ◌∙◌, arith, inl, inr, lit<}
use Rattle.std.proofs.lemmas.Bool.{cases_Bool, eqb-true}
use Rattle.xp_words.specs.declared.kind.PageType.{PageType}
use Rattle.xp_words.specs.declared.kind.PageType.TheVariants as kinds
use Rattle.xp_words.specs.declared.entry.Demand.{Demand}
use Rattle.xp_words.specs.RefWords.{ref_read}
use Rattle.xp_words.specs.KindWords.{kind_fields}
use Rattle.std.proofs.lemmas.Bool.Decides.{nat_tests}
use Rattle.xp_words.specs.declared.entry.Demand.TheVariants.{Nothing, Bad, Read, Typed}
use Rattle.xp_words.specs.Entries.{demand_at, demand_of}
use Rattle.xp_words.specs.Machine.{Machine}
use Rattle.xp_words.specs.declared.place.Place.{Place}
use Rattle.xp_words.specs.declared.place.Place.TheVariants.{Refs, Kind, Cell}
use Rattle.xp_words.specs.PageTypes.{is_table}
use Rattle.xp_board.specs.Lawful.{Tree, root, below, IsNode, asked_by, IsOwned, Lawful}
use Rattle.xp_board.specs.Lists.{one_at}
use Rattle.xp_board.specs.Readings.{owner_of, ref_count, is_dead, kind_at}
use Rattle.xp_board.specs.Recorded.{names}
use Rattle.xp_board.specs.Sums.{sum_below}
use Rattle.xp_board.proofs.Sums.{sum_below-none}

abbrev machine : ℕ → Machine
machine limit = record { frames = 16; limit = limit; page_limit = 16 ∷ []; privilege = 0 ∷ []; vcpu_domain = 0 ∷ [] }

-- each frame is domain 0's, allocated, with one reference, and dead; all entries are empty
abbrev empty_words : Place → ℕ
empty_words (Refs f) = 9223372039002259457
empty_words _ = 0

both_nothing : (b : Bool) → ◌≡◌ {A = Demand} (if b then Nothing else Nothing) Nothing
both_nothing true = refl
both_nothing false = refl

asks_nothing : (t : PageType) (i : ℕ) → demand_at t i 0 ≡ Nothing
unfolding demand_at demand_of
asks_nothing t i = both_nothing _

is_dead_zero : IsTrue (is_dead (kind_at empty_words 5))
unfolding kind_fields
is_dead_zero = refl

-- the one frame of the tree
alone : (g : ℕ) (u : PageType) → Tree empty_words 5 kinds.L1 g u → (g ≡ 5) × (u ≡ kinds.L1)
alone g u root = (refl, refl)
alone _ _ (below f i h u w above dead table few asks) = absurd (let none = sym (asks_nothing u i) ∙ asks in cc)

nodes : ℕ → Option PageType
nodes g = if g == 5 then Some kinds.L1 else None

node_of : (g : ℕ) (u : PageType) → nodes g ≡ Some u → IsNode empty_words 5 kinds.L1 g u
unfolding nodes
node_of g u is = by (g == 5) refl is
  where
    by : (b : Bool) → (g == 5) ≡ b → (if b then Some kinds.L1 else None) ≡ Some u → IsNode empty_words 5 kinds.L1 g u
    by true at e =
        let five = eqb-true g 5 at in
        let one : kinds.L1 ≡ u = cc in
        subst (λ x. IsNode empty_words 5 kinds.L1 g x) one (subst (λ x. IsNode empty_words 5 kinds.L1 x kinds.L1) (sym five) (record { tree = root; dead = is_dead_zero; table = refl }))
    by false at e = absurd cc

all_nodes : (g : ℕ) (u : PageType) → IsNode empty_words 5 kinds.L1 g u → nodes g ≡ Some u
unfolding nodes
all_nodes g u n = let a = alone g u n.tree in rw (a.0, a.1) refl

owned : (limit g : ℕ) → g < 16 → IsOwned (machine limit) 0 empty_words g
unfolding owner_of ref_count ref_read
owned limit g l = record { inside = l; owned = refl; counted = lit< tt }

no_names : (x : ℕ) (o : Option PageType) (g : ℕ) → asked_by empty_words g o x ≡ 0
unfolding names
no_names x None g = refl
no_names x (Some u) g = sum_below-none 512 (λ i. names g (demand_at u i (empty_words (Cell x i)))) (λ i l. ap (names g) (asks_nothing u i))

counted_one : (g : ℕ) → ref_count (empty_words (Refs g)) ≡ 1
unfolding ref_count ref_read
counted_one g = refl

at_most_one : (f g : ℕ) → one_at f g ≤ 1
at_most_one f g = grind (arith, nat_tests)

an_empty_table : (limit : ℕ) → 2 ≤ limit → Lawful (machine limit) 0 empty_words 5 kinds.L1
an_empty_table limit room =
    record {
      allowed = λ g i u n l asks. let none = sym (asks_nothing u i) ∙ asks in cc;
      plain = λ g i h u n l asks. absurd (let none = sym (asks_nothing u i) ∙ asks in cc);
      typed = λ g u t. let a = alone g u t in subst (λ x. IsOwned (machine limit) 0 empty_words x) (sym a.0) (owned limit 5 (lit< tt));
      one_type = λ g u w s t. (alone g u s).1 ∙ sym (alone g w t).1;
      right_type = λ g u t. let a = alone g u t in inl (subst (λ x. IsTrue (is_dead (kind_at empty_words x))) (sym a.0) is_dead_zero);
      nodes = nodes;
      each = node_of;
      all = all_nodes;
      within = λ g o l own.
          let none = sum_below-none 16 (λ x. asked_by empty_words g (nodes x) x) (λ x b. no_names x (nodes x) g) in
          let one = counted_one g in
          let few = at_most_one 5 g in
          omega arith;
    }

-- one reference more would pass the limit
one_too_many : Lawful (machine 1) 0 empty_words 5 kinds.L1 → ⊥
unfolding owner_of ref_count ref_read
one_too_many l = let sum = l.within 5 0 (lit< tt) refl in omega arith

-- ---- a table that maps itself writable: two types are asked of it
abbrev self_words : Place → ℕ
self_words (Refs f) = 9223372039002259457
self_words (Cell f i) = if f == 5 then (if i == 0 then 20483 else 0) else 0
self_words _ = 0

self_writable : Tree self_words 5 kinds.L1 5 kinds.Writable
unfolding demand_at demand_of kind_fields
self_writable = below 5 0 5 kinds.L1 kinds.Writable root refl refl (omega arith) refl

not_itself : (limit : ℕ) → Lawful (machine limit) 0 self_words 5 kinds.L1 → ⊥
not_itself limit l = let same = l.one_type 5 kinds.L1 kinds.Writable root self_writable in cc

-- ---- a live table without a type count has the right type, and is closing
abbrev closing_words : Place → ℕ
closing_words (Refs f) = 9223372039002259457
closing_words (Kind f) = if f == 5 then 5629499534213120 else 0
closing_words _ = 0

not_closing : (limit : ℕ) → Lawful (machine limit) 0 closing_words 5 kinds.L1 → ⊥
unfolding kind_fields
not_closing limit l = elim (l.right_type 5 kinds.L1 root) [ inl dead ↦ absurd (cc) | inr is ↦ let some = is.counted in absurd (omega arith) ]

-- ---- a table leads to a partial one of the right type
abbrev partial_words : Place → ℕ
partial_words (Refs f) = 9223372039002259457
partial_words (Kind f) = if f == 6 then 5066549580791808 else 0
partial_words (Cell f i) = if f == 5 then (if i == 0 then 24583 else 0) else 0
partial_words _ = 0

leads_to_partial : Tree partial_words 5 kinds.L2 6 kinds.L1
unfolding demand_at demand_of kind_fields
leads_to_partial = below 5 0 6 kinds.L2 kinds.L1 root refl refl (omega arith) refl

not_over_partial : (limit : ℕ) → Lawful (machine limit) 0 partial_words 5 kinds.L2 → ⊥
unfolding kind_fields
not_over_partial limit l = elim (l.right_type 6 kinds.L1 leads_to_partial) [ inl dead ↦ absurd (cc) | inr is ↦ let live = is.live in absurd (cc) ]
