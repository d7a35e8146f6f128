-- The step that stores a base, and the moment behind it.
use Rattle.std.proofs.Common.{◌≡◌, ◌+◌, ◌<◌, ℕ, Bool, List, Option, Some, None, Result, Ok, refl, ap, subst, ◌∙◌, arith}
use Rattle.xp_words.specs.declared.place.Place.TheVariants.{Clock, Vcpu}
use Rattle.xp_words.specs.declared.reply.Stop.{Stop}
use Rattle.xp_words.specs.Machine.{Machine}
use Rattle.xp_board.specs.declared.step.Act.TheVariants.{Load, Store}
use Rattle.xp_board.specs.declared.step.Step.{Step}
use Rattle.xp_board.specs.declared.step.StepKind.TheVariants as kinds
use Rattle.xp_board.specs.Acts.{left_by}
use Rattle.xp_board.specs.Runs.{Run, State, start, word_at}
use Rattle.xp_board.specs.Sound.{SoundWords, hand_of}
use Rattle.xp_board.specs.Told.{Post, PortValue}
use Rattle.step_maker.specs.Moves.{Came, Moves}
use Rattle.step_maker.proofs.Coming.{came_post, came_trans, moves_came}
use Rattle.sound_rule.proofs.OwnRun.{RunsSound}
use Rattle.level_validate.specs.Unwinding.{own_domain}
use Rattle.table_bases.specs.Course.{SetsBase, installed, spent, unacquired}
use Rattle.table_bases.specs.Holding.{base_number}
use Rattle.table_bases.specs.declared.words.Base.{Base}
use Rattle.table_bases.specs.declared.words.Base.TheVariants.{Kernel, User}
use Rattle.course_laws.proofs.Stopping.{acquired_came}
use Rattle.determined_releases.proofs.Bases.{stored_came}
use Rattle.whole_trees.specs.Whole.{WasBase}
use Rattle.whole_trees.proofs.Behind.{IsBehind, is_behind}
use Rattle.whole_trees.proofs.Hands.{came_more}
use Rattle.whole_trees.proofs.Moments.{state}
use Rattle.whole_trees.proofs.Tops.{all_whole}

record StoresIt (v w : PortValue) (base : Base) (f : ℕ) : Type 0 where
  from : PortValue
  stored : PortValue
  before : Came v from
  old : ℕ
  stores : Moves from stored (Vcpu from.post.vcpu (base_number base)) (Store (f + 1)) kinds.Context None old
  behind : Came stored w

set_by_base : (v w : PortValue) (base : Base) (f : ℕ) (o : Option ℕ) (answers : List Bool) (r : Result (Unit {0}) Stop) → SetsBase v w base o answers r → r ≡ Ok tt → o ≡ Some f → StoresIt v w base f
set_by_base v w base f _ _ _ (spent o look) is names = absurd cc
set_by_base v w base f _ _ _ (unacquired a g clock answers stop look off acquires) is names = absurd cc
set_by_base v w base f _ _ _ (installed a b clock None answers more look off acquires installs) is names = absurd cc
set_by_base v w base f _ _ _ (installed a b clock (Some g) answers more look off acquires installs) is names =
    let same : g ≡ f = cc in
    record {
      from = b;
      stored = installs.stored;
      before = came_trans v a b (moves_came v a Clock Load kinds.Look None clock look) (acquired_came a g (own_domain a) 4 b answers (Ok g) acquires);
      old = installs.old;
      stores = subst (λ x. Moves b installs.stored (Vcpu b.post.vcpu (base_number base)) (Store (x + 1)) kinds.Context None installs.old) same installs.stores;
      behind = stored_came installs;
    }

small_base : (base : Base) → base_number base < 2
small_base Kernel = omega arith
small_base User = omega arith

stored_is : (x found : ℕ) → left_by (Store x) found ≡ x
unfolding left_by
stored_is x found = refl

module _ (n : Machine) (opening : List ℕ) (log : List (ℕ × Step)) (b : State) (v w z : PortValue) (base : Base) (f : ℕ) (sound : SoundWords n opening) (runs : RunsSound) (run : Run n (start n opening) log b)
    (machine : v.post.machine ≡ n) (is : (hand_of b.hands v.post.vcpu).steps ≡ z.holdings.steps) (set : StoresIt v w base f) (goes : Came w z) where
  abbrev s : ℕ
  s = v.post.vcpu

  abbrev k : ℕ
  k = base_number base

  post : set.from.post ≡ v.post
  post = came_post v set.from set.before

  own : set.from.post.machine ≡ n
  own = ap (λ (q : Post). q.machine) post ∙ machine

  stores : Moves set.from set.stored (Vcpu s k) (Store (f + 1)) kinds.Context None set.old
  stores = subst (λ (q : Post). Moves set.from set.stored (Vcpu q.vcpu k) (Store (f + 1)) kinds.Context None set.old) post set.stores

  there : IsBehind n opening log s (Vcpu s k) (Store (f + 1)) set.old v.holdings.steps w.holdings.steps set.from.holdings.steps
  there =
      let more = came_more set.stored z (came_trans set.stored w z set.behind goes) in
      let first = came_more v set.from set.before in
      let rest = came_more set.stored w set.behind in
      is_behind n opening log b more.0 s set.from set.stored (Vcpu s k) (Store (f + 1)) kinds.Context set.old sound runs run own (is ∙ more.1) stores v.holdings.steps first.0 w.holdings.steps rest.0 first.1 rest.1

  names : word_at n there.moment (Vcpu s k) ≡ f + 1
  names = there.left ∙ stored_is (f + 1) set.old

  was_base : WasBase n opening log s v.holdings.steps w.holdings.steps k f
  was_base =
      let all = all_whole n (word_at n there.moment) (hand_of there.moment.hands) (state n opening s sound runs there.moment there.older there.run).sound in
      let top = all.bases s k f there.set.made.vcpu (small_base base) names in
      record { before = there.before; moment = there.moment; set = there.set; names = names; owner = top.0; whole = top.1 }

pub base_was_set : RunsSound → (n : Machine) (opening : List ℕ) (log : List (ℕ × Step)) (b : State) (v w z : PortValue) (base : Base) (f : ℕ) (answers : List Bool) →
    SoundWords n opening → Run n (start n opening) log b → v.post.machine ≡ n → (hand_of b.hands v.post.vcpu).steps ≡ z.holdings.steps → SetsBase v w base (Some f) answers (Ok tt) → Came w z →
    WasBase n opening log v.post.vcpu v.holdings.steps w.holdings.steps (base_number base) f
base_was_set runs n opening log b v w z base f answers sound run machine is sets goes = was_base n opening log b v w z base f sound runs run machine is (set_by_base v w base f (Some f) answers (Ok tt) sets refl refl) goes
