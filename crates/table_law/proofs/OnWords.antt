-- A tree is lawful on words exactly where it is on the plain value that describes them.
use Rattle.std.proofs.Common.{◌≡◌, ◌≢◌, ℕ, ◌+◌, ◌<◌, ◌≤◌, ◌⊎◌, true, Option, Some, None, IsTrue, refl, sym, ap, ◌∙◌, subst, inl, inr, arith}
use Rattle.xp_words.specs.declared.kind.KindWord.{KindWord}
use Rattle.xp_words.specs.declared.kind.PageType.{PageType}
use Rattle.xp_words.specs.declared.entry.Demand.{Demand}
use Rattle.xp_words.specs.declared.entry.Demand.TheVariants.{Nothing, Bad, Read, Typed}
use Rattle.xp_words.specs.declared.place.Place.TheVariants.{Refs, Cell}
use Rattle.xp_words.specs.Entries.{demand_at}
use Rattle.xp_words.specs.Machine.{Machine}
use Rattle.xp_board.specs.Lawful.{Tree, root, below, IsNode, asked_by, IsOwned, IsCountedAs, Lawful}
use Rattle.xp_board.specs.Lists.{one_at}
use Rattle.xp_board.specs.Readings.{is_dead, kind_at, owner_of, ref_count}
use Rattle.xp_board.specs.Recorded.{names}
use Rattle.xp_board.specs.Sums.{sum_below}
use Rattle.xp_board.proofs.Sums.{sum_below-same, sum_below-none, one_at-other}
use Rattle.step_maker.specs.Plain.{Words}
use Rattle.table_law.specs.Plain.{Plain, Share, Describes, share_of, sober}
use Rattle.table_law.specs.Undone.{CountsSome}
use Rattle.table_law.specs.Levels.{entry_of}
use Rattle.table_law.specs.Lawful.{PlainTree, IsPlainNode, plain_asked_by, IsShareOf, IsPlainOwned, PlainLawful, IsRested, IsAtRest, share_count}
use Rattle.table_law.specs.Lawful.{root as plain_root, below as plain_below}
use Rattle.table_law.proofs.Describing.{owns_word, none_counted, owned_share, share_most, sober_dead, sober_kind, sober_live}

live_number : (k : KindWord) → k.validated ≡ true → (sober k).number ≡ k.number
live_number k on = rw on refl

module _ (n : Machine) (owner f : ℕ) (t : PageType) (m : Words) (p : Plain) (d : Describes n m p) where
  -- ---- one frame
  dead_as : (g : ℕ) → g < n.frames → is_dead (p.kinds g) ≡ is_dead (kind_at m g)
  dead_as g inside = ap is_dead (d.kinds g inside) ∙ sober_dead (kind_at m g)

  kind_as : (g : ℕ) → g < n.frames → (p.kinds g).kind ≡ (kind_at m g).kind
  kind_as g inside = ap (λ (k : KindWord). k.kind) (d.kinds g inside) ∙ sober_kind (kind_at m g)

  live_as : (g : ℕ) → g < n.frames → (p.kinds g).validated ≡ (kind_at m g).validated
  live_as g inside = ap (λ (k : KindWord). k.validated) (d.kinds g inside) ∙ sober_live (kind_at m g)

  number_as : (g : ℕ) → g < n.frames → (kind_at m g).validated ≡ true → (p.kinds g).number ≡ (kind_at m g).number
  number_as g inside live = ap (λ (k : KindWord). k.number) (d.kinds g inside) ∙ live_number (kind_at m g) live

  counted_plain : (g : ℕ) (u : PageType) → g < n.frames → IsCountedAs (kind_at m g) u → IsCountedAs (p.kinds g) u
  counted_plain g u inside is =
      let number = number_as g inside is.live in
      let some = is.counted in
      record { live = live_as g inside ∙ is.live; kind = kind_as g inside ∙ is.kind; counted = omega arith }

  counted_words : (g : ℕ) (u : PageType) → g < n.frames → IsCountedAs (p.kinds g) u → IsCountedAs (kind_at m g) u
  counted_words g u inside is =
      let live = sym (live_as g inside) ∙ is.live in
      let number = number_as g inside live in
      let some = is.counted in
      record { live = live; kind = sym (kind_as g inside) ∙ is.kind; counted = omega arith }

  entry_as : (g i : ℕ) (u : PageType) → g < n.frames → i < 512 → entry_of p u g i ≡ demand_at u i (m (Cell g i))
  entry_as g i u inside few = ap (demand_at u i) (d.cells g i inside few)

  owned_plain : (g : ℕ) → IsOwned n owner m g → IsPlainOwned n owner p g
  owned_plain g own = record { inside = own.inside; share = subst (IsShareOf owner) (sym (d.shares g own.inside)) (owned_share (m (Refs g)) owner own.owned own.counted) }

  owned_by : (g : ℕ) (o : Option Share) → g < n.frames → share_of (m (Refs g)) ≡ o → IsShareOf owner o → IsOwned n owner m g
  owned_by g None inside is own = absurd own
  owned_by g (Some s) inside is own =
      let word = owns_word (m (Refs g)) s is in
      record { inside = inside; owned = word.owned ∙ ap Some own; counted = (let k = word.count in let l = word.some in omega arith) }

  owned_words : (g : ℕ) → IsPlainOwned n owner p g → IsOwned n owner m g
  owned_words g own = owned_by g (share_of (m (Refs g))) own.inside refl (subst (IsShareOf owner) (d.shares g own.inside) own.share)

  asked_same : (g x : ℕ) (o : Option PageType) → x < n.frames → plain_asked_by p g o x ≡ asked_by m g o x
  asked_same g x None inside = refl
  asked_same g x (Some u) inside =
      sum_below-same 512 (λ i. names g (entry_of p u x i)) (λ i. names g (demand_at u i (m (Cell x i)))) (λ i few. ap (names g) (entry_as x i u inside few))

  all_same : (g : ℕ) (nodes : ℕ → Option PageType) → sum_below n.frames (λ x. plain_asked_by p g (nodes x) x) ≡ sum_below n.frames (λ x. asked_by m g (nodes x) x)
  all_same g nodes = sum_below-same n.frames (λ x. plain_asked_by p g (nodes x) x) (λ x. asked_by m g (nodes x) x) (λ x inside. asked_same g x (nodes x) inside)

  -- ---- the trees
  module _ (inside : (g : ℕ) (u : PageType) → Tree m f t g u → g < n.frames) where
    tree_words : (g : ℕ) (u : PageType) → PlainTree p f t g u → Tree m f t g u
    tree_words g u plain_root = root
    tree_words g u (plain_below x i h v w above dead table few asks) =
        let up = tree_words x v above in
        let in_x = inside x v up in
        below x i h v w up (sym (dead_as x in_x) ∙ dead) table few (sym (entry_as x i v in_x few) ∙ asks)

    node_words : (g : ℕ) (u : PageType) → IsPlainNode p f t g u → IsNode m f t g u
    node_words g u node =
        let tree = tree_words g u node.tree in
        record { tree = tree; dead = sym (dead_as g (inside g u tree)) ∙ node.dead; table = node.table }

  module _ (inside : (g : ℕ) (u : PageType) → PlainTree p f t g u → g < n.frames) where
    tree_plain : (g : ℕ) (u : PageType) → Tree m f t g u → PlainTree p f t g u
    tree_plain g u root = plain_root
    tree_plain g u (below x i h v w above dead table few asks) =
        let up = tree_plain x v above in
        let in_x = inside x v up in
        plain_below x i h v w up (dead_as x in_x ∙ dead) table few (entry_as x i v in_x few ∙ asks)

    node_plain : (g : ℕ) (u : PageType) → IsNode m f t g u → IsPlainNode p f t g u
    node_plain g u node =
        let tree = tree_plain g u node.tree in
        record { tree = tree; dead = dead_as g (inside g u tree) ∙ node.dead; table = node.table }

  -- ---- from the words
  module _ (law : Lawful n owner m f t) where
    tree_in : (g : ℕ) (u : PageType) → PlainTree p f t g u → Tree m f t g u
    tree_in g u tree = tree_words (λ x v a. (law.typed x v a).inside) g u tree

    inside_in : (g : ℕ) (u : PageType) → PlainTree p f t g u → g < n.frames
    inside_in g u tree = (law.typed g u (tree_in g u tree)).inside

    node_in : (g : ℕ) (u : PageType) → IsPlainNode p f t g u → IsNode m f t g u
    node_in g u node = node_words (λ x v a. (law.typed x v a).inside) g u node

    within_plain : (g : ℕ) (s : Share) → g < n.frames → p.shares g ≡ Some s → s.count + (one_at f g + sum_below n.frames (λ x. plain_asked_by p g (law.nodes x) x)) ≤ n.limit
    within_plain g s inside is =
        let word = owns_word (m (Refs g)) s (sym (d.shares g inside) ∙ is) in
        let most = law.within g s.owner inside word.owned in
        let sum = all_same g law.nodes in
        let count = word.count in
        omega arith

    right_plain : (g : ℕ) (u : PageType) → PlainTree p f t g u → IsTrue (is_dead (p.kinds g)) ⊎ IsCountedAs (p.kinds g) u
    right_plain g u tree =
        let inside = inside_in g u tree in
        elim (law.right_type g u (tree_in g u tree)) [ inl dead ↦ inl (dead_as g inside ∙ dead) | inr is ↦ inr (counted_plain g u inside is) ]

    pub lawful_plain : PlainLawful n owner p f t
    lawful_plain =
        record {
          allowed = λ g i u node few asks. law.allowed g i u (node_in g u node) few (sym (entry_as g i u (inside_in g u node.tree) few) ∙ asks);
          plain = λ g i h u node few asks. owned_plain h (law.plain g i h u (node_in g u node) few (sym (entry_as g i u (inside_in g u node.tree) few) ∙ asks));
          typed = λ g u tree. owned_plain g (law.typed g u (tree_in g u tree));
          one_type = λ g u w a b. law.one_type g u w (tree_in g u a) (tree_in g w b);
          right_type = right_plain;
          nodes = law.nodes;
          each = λ g u is. node_plain inside_in g u (law.each g u is);
          all = λ g u node. law.all g u (node_in g u node);
          within = within_plain;
        }

  -- ---- from the plain value
  module _ (law : PlainLawful n owner p f t) where
    inside_of : (g : ℕ) (u : PageType) → PlainTree p f t g u → g < n.frames
    inside_of g u tree = (law.typed g u tree).inside

    tree_of : (g : ℕ) (u : PageType) → Tree m f t g u → PlainTree p f t g u
    tree_of g u tree = tree_plain inside_of g u tree

    node_of : (g : ℕ) (u : PageType) → IsNode m f t g u → IsPlainNode p f t g u
    node_of g u node = node_plain inside_of g u node

    -- a frame that nobody owns is named by no node
    module _ (g : ℕ) (none : p.shares g ≡ None) where
      off_owned : (h : ℕ) → IsPlainOwned n owner p h → g ≢ h
      off_owned h own is = subst (IsShareOf owner) (sym (ap p.shares is) ∙ none) own.share

      unnamed : (x i : ℕ) (u : PageType) (a : Demand) → IsPlainNode p f t x u → i < 512 → entry_of p u x i ≡ a → names g a ≡ 0
      unfolding names
      unnamed x i u Nothing node few asks = refl
      unnamed x i u Bad node few asks = refl
      unnamed x i u (Read h) node few asks = one_at-other g h (off_owned h (law.plain x i h u node few asks))
      unnamed x i u (Typed h w) node few asks = one_at-other g h (off_owned h (law.typed h w (plain_below x i h u w node.tree node.dead node.table few asks)))

      unasked : (x : ℕ) (o : Option PageType) → law.nodes x ≡ o → plain_asked_by p g o x ≡ 0
      unasked x None is = refl
      unasked x (Some u) is = sum_below-none 512 (λ i. names g (entry_of p u x i)) (λ i few. unnamed x i u (entry_of p u x i) (law.each x u is) few refl)

      nothing_named : one_at f g + sum_below n.frames (λ x. plain_asked_by p g (law.nodes x) x) ≡ 0
      nothing_named =
          let top = one_at-other f g (λ is. off_owned f (law.typed f t plain_root) (sym is)) in
          let sum = sum_below-none n.frames (λ x. plain_asked_by p g (law.nodes x) x) (λ x b. unasked x (law.nodes x) refl) in
          omega arith

    within_by : (g o : ℕ) (s : Option Share) → g < n.frames → p.shares g ≡ s → owner_of (m (Refs g)) ≡ Some o →
        ref_count (m (Refs g)) + (one_at f g + sum_below n.frames (λ x. asked_by m g (law.nodes x) x)) ≤ n.limit
    within_by g o None inside is own =
        let count = none_counted (m (Refs g)) o own (sym (d.shares g inside) ∙ is) in
        let sum = all_same g law.nodes in
        let none = nothing_named g is in
        omega arith
    within_by g o (Some s) inside is own =
        let count = (owns_word (m (Refs g)) s (sym (d.shares g inside) ∙ is)).count in
        let sum = all_same g law.nodes in
        let most = law.within g s inside is in
        omega arith

    right_words : (g : ℕ) (u : PageType) → Tree m f t g u → IsTrue (is_dead (kind_at m g)) ⊎ IsCountedAs (kind_at m g) u
    right_words g u tree =
        let inside = inside_of g u (tree_of g u tree) in
        elim (law.right_type g u (tree_of g u tree)) [ inl dead ↦ inl (sym (dead_as g inside) ∙ dead) | inr is ↦ inr (counted_words g u inside is) ]

    inside_words : (g : ℕ) (u : PageType) → Tree m f t g u → g < n.frames
    inside_words g u tree = inside_of g u (tree_of g u tree)

    pub lawful_words : Lawful n owner m f t
    lawful_words =
        record {
          allowed = λ g i u node few asks. law.allowed g i u (node_of g u node) few (entry_as g i u (inside_words g u node.tree) few ∙ asks);
          plain = λ g i h u node few asks. owned_words h (law.plain g i h u (node_of g u node) few (entry_as g i u (inside_words g u node.tree) few ∙ asks));
          typed = λ g u tree. owned_words g (law.typed g u (tree_of g u tree));
          one_type = λ g u w a b. law.one_type g u w (tree_of g u a) (tree_of g w b);
          right_type = right_words;
          nodes = law.nodes;
          each = λ g u is. node_words inside_words g u (law.each g u is);
          all = λ g u node. law.all g u (node_of g u node);
          within = λ g o inside own. within_by g o (p.shares g) inside refl own;
        }

-- ---- at rest
-- where each live frame of the words has a type count, so it has on the plain value
counts_types : (n : Machine) (m : Words) (p : Plain) → Describes n m p → ((g : ℕ) → g < n.frames → (kind_at m g).validated ≡ true → 0 < (kind_at m g).number) → (g : ℕ) → g < n.frames → (p.kinds g).validated ≡ true → 0 < (p.kinds g).number
counts_types n m p d some g inside live =
    let same = ap (λ (k : KindWord). k.validated) (d.kinds g inside) ∙ sober_live (kind_at m g) in
    let number = ap (λ (k : KindWord). k.number) (d.kinds g inside) ∙ live_number (kind_at m g) (sym same ∙ live) in
    let count = some g inside (sym same ∙ live) in
    omega arith

pub rested_plain : (n : Machine) (m : Words) (p : Plain) → Describes n m p → IsAtRest n m → IsRested n p
rested_plain n m p d rest =
    record {
      formed = λ g inside off.
          let k = d.kinds g inside in
          ap (λ (w : KindWord). w.validated) k ∙ sober_live (kind_at m g)
          ∙ rest.formed g inside (sym (sober_dead (kind_at m g)) ∙ sym (ap is_dead k) ∙ off);
      counted = counts_types n m p d rest.counted;
      room = λ g inside. let count = share_most (m (Refs g)) in let same = ap share_count (d.shares g inside) in let most = rest.room g inside in omega arith;
    }

-- where each live frame has a type count, each count is one of the plain value, too
pub counts_plain : (n : Machine) (m : Words) (p : Plain) → Describes n m p → ((g : ℕ) → g < n.frames → (kind_at m g).validated ≡ true → 0 < (kind_at m g).number) → CountsSome n p
counts_plain n m p d some =
    record {
      types = counts_types n m p d some;
      refs = λ g s inside is. (owns_word (m (Refs g)) s (sym (d.shares g inside) ∙ is)).some;
    }
