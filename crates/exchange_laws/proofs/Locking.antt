-- The lock of a table goes off and on again: on the plain value that is nothing.
use Rattle.std.proofs.Common.{◌≡◌, ℕ, ◌+◌, ◌-◌, ◌<◌, ◌≤◌, ◌==◌, if◌then◌else◌, Bool, true, false, Option, Some, None, IsTrue, refl, sym, ap, ◌∙◌, subst, arith}
use Rattle.std.proofs.Math.Path.{fun_ext}
use Rattle.std.proofs.lemmas.Bool.{and_parts}
use Rattle.std.proofs.lemmas.Bool.Decides.{nat_tests}
use Rattle.xp_words.specs.KindWords.{is_kind, kind_fields, kind_write}
use Rattle.xp_words.specs.Machine.{IsMachine, Machine}
use Rattle.xp_words.specs.declared.kind.KindWord.{KindWord}
use Rattle.xp_words.specs.declared.place.Place.TheVariants.{Kind, Refs}
use Rattle.xp_board.specs.KindSteps.{locked_kind}
use Rattle.xp_board.specs.Told.{Post, PortValue, is_telling, told_word}
use Rattle.xp_board.proofs.KindForms.{frame_inside}
use Rattle.step_maker.specs.Plain.{Leaves, Words}
use Rattle.step_maker.proofs.Coming.{came_post}
use Rattle.step_maker.proofs.Telling.{came_telling, told_there}
use Rattle.step_maker.proofs.Visiting.{does_came}
use Rattle.frame_words.specs.Plain.{got, refer}
use Rattle.frame_types.specs.Plain.{set_kind}
use Rattle.kind_words.specs.Kinds.{partial_kind}
use Rattle.kind_words.proofs.KindFacts.{kind_found}
use Rattle.kind_words.proofs.KindWriting.{fields_write}
use Rattle.partial_state.specs.Levels.{level_type}
use Rattle.table_law.specs.Alone.{PlainOutcome, take_reference}
use Rattle.table_law.specs.Plain.{Describes, Plain, Share, fewer, raised_share, reference_back, sober, with_kind, with_share}
use Rattle.table_law.proofs.Counting.{at_here}
use Rattle.table_twins.proofs.Entering.{described_leaves}
use Rattle.table_twins.proofs.Kinding.{described_alike}
use Rattle.table_twins.proofs.Referring.{same_taken}
use Rattle.table_twins.proofs.Sharing.{count_some}
use Rattle.table_twins.proofs.Typing.{live_sober}
use Rattle.course_laws.proofs.Completing.{described_kind, stored_kinded}
use Rattle.course_laws.proofs.Extras.{IsSame, described_same}
use Rattle.course_laws.proofs.Lending.{Lent, lent_there}
use Rattle.entry_locks.specs.Locks.{Unlocks, is_lockable}
use Rattle.entry_locks.specs.Plain.{with_lock}
use Rattle.entry_exchange.specs.Course as course
use Rattle.entry_exchange.specs.Course.{LeftLock}
use Rattle.exchange_laws.specs.Locks.{LocksAgain}
use Rattle.table_law.specs.Exchange.{unlocked_plain}
use Rattle.exchange_laws.proofs.Unlocking.{lock_came, lock_off}

-- ---- the kind word under the lock
record IsLocked (n : Machine) (p : Plain) (f : ℕ) : Type 0 where
  pub inside : f < n.frames
  pub spelled : IsTrue (is_kind (p.kinds f))
  pub live : (p.kinds f).validated ≡ true
  pub locked : (p.kinds f).locked ≡ true
  pub counted : 0 < (p.kinds f).number

module _ (n : Machine) (v : PortValue) (f level : ℕ) (p : Plain) (same : v.post.machine ≡ n) (telling : is_telling v ≡ true) (d : Describes n (told_word v) p) where
  unlocks_from : (u : PortValue) (last : Bool) → Unlocks v u f last → IsLocked n p f
  unlocks_from u last off =
      let inside = frame_inside v.post.machine f off.unlocks.step.may.place in
      let here : f < n.frames = subst (λ (x : Machine). f < x.frames) same inside in
      let word = told_there v u _ _ _ _ _ off.unlocks.step telling in
      let there : p.kinds f ≡ kind_fields off.found = d.kinds f here ∙ (ap (λ w. sober (kind_fields w)) word ∙ live_sober (kind_fields off.found) off.unlocks.live) in
      let found = kind_found v.post.machine v.post.vcpu v.holdings f off.found inside off.unlocks.step.finds in
      record {
        inside = here;
        spelled = subst (λ k. IsTrue (is_kind k)) (sym (there ∙ found.fields)) found.is;
        live = ap (λ (k : KindWord). k.validated) there ∙ off.unlocks.live;
        locked = ap (λ (k : KindWord). k.locked) there ∙ off.unlocks.locked;
        counted = subst (λ (k : KindWord). 0 < k.number) (sym there) off.unlocks.counted;
      }

  left_from : (u : PortValue) → LeftLock v f level u → IsLocked n p f
  left_from _ (course.shared u w off gave) = unlocks_from u false off
  left_from _ (course.last u y w found off store names) = unlocks_from u true off

-- ---- the plain value with the lock off, of which a reference was taken, and the lock
module _ (n : Machine) (p : Plain) (f level : ℕ) (s : Share) (is : IsLocked n p f) (some : (r : Share) → p.shares f ≡ Some r → 0 < r.count) where
  abbrev k : KindWord
  k = p.kinds f

  abbrev less : KindWord
  less = record k { number = k.number - 1; locked = false }

  -- it was not the last type count: such a table is no live one
  abbrev off : Plain
  off = reference_back f (with_kind f less p)

  one_more : locked_kind less ≡ k
  one_more =
      let some = is.counted in
      let count : k.number - 1 + 1 ≡ k.number = omega arith in
      ap (λ c. record k { locked = true; number = c }) count ∙ ap (λ b. record k { locked = b }) (sym is.locked)

  share_by : (o : Option Share) → p.shares f ≡ o → fewer o ≡ Some s → Some (raised_share s) ≡ o
  share_by None was few = absurd cc
  share_by (Some r) was few = counts (r.count == 1) refl few
    where
      counts : (b : Bool) → (r.count == 1) ≡ b → (if b then None else Some (record { owner = r.owner; allocated = r.allocated; count = r.count - 1 })) ≡ Some s → Some (raised_share s) ≡ Some r
      counts true one few = absurd cc
      counts false one few =
          let low = some r was in
          let same : record { owner = r.owner; allocated = r.allocated; count = r.count - 1 } ≡ s = cc in
          let count : r.count - 1 + 1 ≡ r.count = omega arith in
          ap (λ (x : Share). Some (raised_share x)) (sym same) ∙ ap (λ c. Some (record { owner = r.owner; allocated = r.allocated; count = c })) count

  shares_by : (b : Bool) (h : ℕ) → (h == f) ≡ b → off.shares f ≡ Some s → p.shares h ≡ (if b then Some (raised_share s) else (if b then fewer (p.shares f) else p.shares h))
  shares_by true h same was =
      let e : h ≡ f = grind (arith, nat_tests) in
      ap p.shares e ∙ sym (share_by (p.shares f) refl (sym (at_here f (fewer (p.shares f)) p.shares) ∙ was))
  shares_by false h same was = refl

  kinds_by : (b : Bool) (h : ℕ) → (h == f) ≡ b → p.kinds h ≡ (if b then locked_kind less else (if b then less else p.kinds h))
  kinds_by true h same = let e : h ≡ f = grind (arith, nat_tests) in ap p.kinds e ∙ sym one_more
  kinds_by false h same = refl

  again : off.shares f ≡ Some s → IsSame (with_kind f (locked_kind less) (with_share f (raised_share s) off)) p
  again was = record { shares = λ h. shares_by (h == f) h refl was; kinds = λ h. kinds_by (h == f) h refl; cells = λ h i. refl }

-- ---- on words
module _ (n : Machine) (owner f level : ℕ) (machine : IsMachine n) (v u w : PortValue) (p : Plain) (same : v.post.machine ≡ n) (telling : is_telling v ≡ true) (low : 1 ≤ level) (d : Describes n (told_word v) p) (left : LeftLock v f level u) (on : LocksAgain u w f owner level) where
  locks : IsLocked n p f
  locks = left_from n v f level p same telling d u left

  abbrev x : PortValue
  x = on.next

  at_next : Describes n (told_word x) (unlocked_plain level f p)
  at_next = described_alike n (told_word x) (told_word u) (unlocked_plain level f p) on.words (lock_off n v u f level p same telling low d left)

  machine_x : x.post.machine ≡ n
  machine_x = on.machine ∙ (ap (λ (q : Post). q.machine) (came_post v u (lock_came v u f level left)) ∙ same)

  none : refer n owner f (told_word x (Refs f)) ≡ None
  none = subst (λ y. refer y owner f (told_word x (Refs f)) ≡ None) machine_x (on.reference.plain on.telling).0

  referred : told_word on.referred ≡ got f (told_word x)
  referred = fun_ext (on.reference.plain on.telling).1

  lockable : IsTrue (is_lockable (kind_fields (told_word x (Kind f)))) × Leaves w (with_lock f (got f (told_word x)))
  lockable =
      let a = on.lock (came_telling x on.referred (does_came x on.referred _ on.reference.found) ∙ on.telling) in
      let b = subst (λ (m : Words). (on.found ≡ m (Kind f)) × Leaves w (with_lock f m)) referred (a.0, a.3) in
      (subst (λ y. IsTrue (is_lockable (kind_fields y))) b.0 a.1, b.1)

  live : (kind_fields (told_word x (Kind f))).validated ≡ true
  live = (and_parts _ _ (and_parts _ _ lockable.0).0).1

  -- what it is there
  there : (unlocked_plain level f p).kinds f ≡ kind_fields (told_word x (Kind f))
  there = at_next.kinds f locks.inside ∙ live_sober (kind_fields (told_word x (Kind f))) live

  -- with the lock off
  abbrev free : Plain
  free = reference_back f (with_kind f (record (p.kinds f) { number = (p.kinds f).number - 1; locked = false }) p)

  free_by : (b : Bool) → ((p.kinds f).number == 1) ≡ b → unlocked_plain level f p ≡ free
  free_by true one =
      let e : unlocked_plain level f p ≡ with_kind f (partial_kind (level_type level) false false 512 0) p = ap (λ b. if b then with_kind f (partial_kind (level_type level) false false 512 0) p else free) one in
      let k : partial_kind (level_type level) false false 512 0 ≡ kind_fields (told_word x (Kind f)) = sym (at_here f (partial_kind (level_type level) false false 512 0) p.kinds) ∙ (sym (ap (λ (q : Plain). q.kinds f) e) ∙ there) in
      absurd (let b : false ≡ true = ap (λ (j : KindWord). j.validated) k ∙ live in cc)
  free_by false one = ap (λ b. if b then with_kind f (partial_kind (level_type level) false false 512 0) p else free) one

  is_free : unlocked_plain level f p ≡ free
  is_free = free_by ((p.kinds f).number == 1) refl

  at_free : Describes n (told_word x) free
  at_free = subst (Describes n (told_word x)) is_free at_next

  lends : Lent n f free (take_reference n owner f free)
  lends = lent_there n (told_word x) free owner f machine at_free none

  at_got : Describes n (got f (told_word x)) (with_share f (raised_share lends.share) free)
  at_got = subst (λ (o : PlainOutcome). Describes n (got f (told_word x)) o.left) lends.is (same_taken n (told_word x) free owner f at_free machine none)

  less_there : kind_fields (told_word x (Kind f)) ≡ record (p.kinds f) { number = (p.kinds f).number - 1; locked = false }
  less_there = sym there ∙ (ap (λ (q : Plain). q.kinds f) is_free ∙ at_here f (record (p.kinds f) { number = (p.kinds f).number - 1; locked = false }) p.kinds)

  some_there : (r : Share) → p.shares f ≡ Some r → 0 < r.count
  some_there r was = count_some n (told_word v) p f r d (sym (d.shares f locks.inside) ∙ was)

  pub locked_again : Describes n (told_word w) p
  locked_again =
      let new = locked_kind (record (p.kinds f) { number = (p.kinds f).number - 1; locked = false }) in
      let is : new ≡ p.kinds f = one_more n p f level lends.share locks some_there in
      let spelled : IsTrue (is_kind new) = subst (λ k. IsTrue (is_kind k)) (sym is) locks.spelled in
      let sobered : new ≡ sober (kind_fields (kind_write new)) = sym (ap sober (fields_write new spelled) ∙ live_sober new (ap (λ (k : KindWord). k.validated) is ∙ locks.live)) in
      let wrote = subst (λ k. Leaves w (set_kind f (locked_kind k) (got f (told_word x)))) less_there lockable.1 in
      let after = with_kind f new (with_share f (raised_share lends.share) free) in
      let stored = described_kind n (got f (told_word x)) (set_kind f new (got f (told_word x))) (with_share f (raised_share lends.share) free) f (kind_write new) new (stored_kinded (got f (told_word x)) f new) sobered at_got in
      described_same n (told_word w) after p (again n p f level lends.share locks some_there lends.was) (described_leaves n w (set_kind f new (got f (told_word x))) after wrote stored)
