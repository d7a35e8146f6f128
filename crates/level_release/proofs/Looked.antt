-- The own old word was looked at, names a frame, and was emptied: which frame that is, and that it is one of the machine.
use Rattle.std.proofs.Common.{◌≡◌, ℕ, ◌+◌, ◌-◌, ◌^◌, ◌<◌, ◌≤◌, None, Some, is_some, IsTrue, sym, ap, ◌∙◌, subst, arith}
use Rattle.xp_words.specs.KindWords.{kind_read}
use Rattle.xp_words.specs.declared.place.Place.TheVariants.{Kind}
use Rattle.xp_board.specs.Told.{Post, PortValue}
use Rattle.xp_board.specs.declared.step.Act.TheVariants.{Load, Store}
use Rattle.xp_board.specs.declared.step.StepKind.TheVariants as kinds
use Rattle.step_maker.specs.Holds.{Holds, Rests, Same}
use Rattle.step_maker.specs.Moves.{Moves}
use Rattle.step_maker.proofs.Coming.{came_post, came_trans, moves_came}
use Rattle.kind_words.proofs.KindFacts.{kind_is_some}
use Rattle.table_words.specs.OldWords.{known_old, learned_old, old_place, taken_from_old}
use Rattle.table_words.specs.declared.old_words.OldWord.{OldWord}
use Rattle.table_words.specs.declared.old_words.OldWord.TheVariants.{First, Second}
use Rattle.table_words.proofs.OldHands.{old_within}
use Rattle.level_release.specs.Settling.{TookOld}

known_by : (which : OldWord) (u a : PortValue) {w : ℕ} → Holds u a (learned_old which w u.holdings) → known_old which a.holdings ≡ Some w
known_by First u a looked = ap (λ (q : PortValue). q.holdings.old0) looked
known_by Second u a looked = ap (λ (q : PortValue). q.holdings.old1) looked

module _ {u a b : PortValue} (which : OldWord) {w x : ℕ} (rests : Rests u) (look : Moves u a (old_place u.post.vcpu which) Load kinds.Look None w) (looked : Holds u a (learned_old which w u.holdings)) (some : w ≡ 0 → ⊥)
    (take : Moves a b (old_place a.post.vcpu which) (Store 0) kinds.Context None x) (taken : Holds a b (taken_from_old which x a.holdings)) (own : (y : ℕ) → known_old which a.holdings ≡ Some y → x ≡ y) where
  same_word : x ≡ w
  same_word = own w (known_by which u a looked)

  abbrev frame : ℕ
  frame = x - 1

  next : w ≡ frame + 1
  next = let same = same_word in omega (arith, same, some)

  within : w ≤ u.post.machine.frames
  within = old_within u.post.machine u.post.vcpu u.holdings which w look.finds

  pub named_inside : frame < u.post.machine.frames
  named_inside = let is = next in let most = within in omega (arith, is, most)

  -- it has a place in a frame's number
  pub named_small : frame < 2 ^ 32
  named_small = let inside = named_inside in let few = rests.may.machine.few_frames in omega (arith, inside, few)

  post_a : a.post ≡ u.post
  post_a = ap (λ (q : PortValue). q.post) looked

  post_b : b.post ≡ u.post
  post_b = came_post u b (came_trans u a b (moves_came u a (old_place u.post.vcpu which) Load kinds.Look None w look) (moves_came a b (old_place a.post.vcpu which) (Store 0) kinds.Context None x take))

  pub named_there : frame < b.post.machine.frames
  named_there = subst (λ (p : Post). frame < p.machine.frames) (sym post_b) named_inside

  module _ {v : PortValue} {word : ℕ} (kind : Moves b v (Kind frame) Load kinds.Look None word) (same : Same b v) where
    pub kind_reads : IsTrue (is_some (kind_read word))
    kind_reads = kind_is_some b.post.machine b.post.vcpu b.holdings frame word named_there kind.finds

    pub named_still : frame < v.post.machine.frames
    named_still = subst (λ (p : Post). frame < p.machine.frames) (sym (ap (λ (q : PortValue). q.post) same)) named_there

    pub took_old : (which ≡ Second → known_old First u.holdings ≡ Some 0) → TookOld u v which frame word
    took_old clear =
        record {
          a = a;
          b = b;
          rests = rests;
          clear = clear;
          frame = named_inside;
          look = subst (λ y. Moves u a (old_place u.post.vcpu which) Load kinds.Look None y) next look;
          looked = subst (λ y. Holds u a (learned_old which y u.holdings)) next looked;
          take = subst (λ (p : Post). Moves a b (old_place p.vcpu which) (Store 0) kinds.Context None (frame + 1)) post_a (subst (λ y. Moves a b (old_place a.post.vcpu which) (Store 0) kinds.Context None y) (same_word ∙ next) take);
          taken = subst (λ y. Holds a b (taken_from_old which y a.holdings)) (same_word ∙ next) taken;
          kind = kind;
          same = same;
        }
