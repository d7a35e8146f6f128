-- A frame that is taken as a descriptor page ends as the plain function.
use Rattle.std.proofs.Common.{◌≡◌, ℕ, ◌<◌, ◌^◌, ◌==◌, is_none, if◌then◌else◌, Bool, true, false, [], Option, Some, None, Result, Ok, Err, refl, sym, ap, ◌∙◌, subst, arith}
use Rattle.xp_words.specs.Entries.{fixed}
use Rattle.xp_words.specs.KindWords.{kind_write}
use Rattle.xp_words.specs.Machine.{IsMachine, Machine}
use Rattle.xp_words.specs.declared.kind.KindWord.{KindWord}
use Rattle.xp_words.specs.declared.kind.PageType.TheVariants.{Desc}
use Rattle.xp_words.specs.declared.place.Place.TheVariants.{Cell, Clock, Kind}
use Rattle.xp_words.specs.declared.reply.Refusal.{Refusal}
use Rattle.xp_words.specs.declared.reply.Refusal.TheVariants as refusals
use Rattle.xp_words.specs.declared.reply.Stop.{Stop}
use Rattle.xp_words.specs.declared.reply.Stop.TheVariants.{Refused, Paused}
use Rattle.xp_board.specs.Readings.{is_dead}
use Rattle.xp_board.specs.Told.{Post, PortValue, is_telling, told_word}
use Rattle.xp_board.specs.declared.step.Act.TheVariants.{Load, Store}
use Rattle.xp_board.specs.declared.step.StepKind.TheVariants as steps
use Rattle.step_maker.specs.Moves.{Came, Moves}
use Rattle.step_maker.specs.Plain.{Leaves, Words}
use Rattle.step_maker.proofs.Alikes.{same_alike}
use Rattle.step_maker.proofs.Coming.{came_post, came_trans, moves_came}
use Rattle.step_maker.proofs.Telling.{came_telling, leaves, load_tells, told_there}
use Rattle.step_maker.proofs.Visiting.{does_came}
use Rattle.kind_words.specs.Kinds.{dead_kind, live_kind, work_kind}
use Rattle.kind_words.proofs.KindFacts.{clock_is_small}
use Rattle.kind_words.proofs.KindWriting.{dead_is, fields_write}
use Rattle.frame_types.specs.Plain.{set_kind, taken, type_stop}
use Rattle.frame_types.specs.declared.taking.Taken.TheVariants as types
use Rattle.table_law.specs.Alone.{PlainOutcome, fine, take_kind, take_reference}
use Rattle.table_law.specs.Levels.{closed}
use Rattle.table_law.specs.Plain.{Describes, Plain, sober, with_kind}
use Rattle.table_twins.proofs.Entering.{described_leaves}
use Rattle.table_twins.proofs.Kinding.{described_alike, kinded}
use Rattle.table_twins.proofs.Typing.{live_sober_one}
use Rattle.table_entries.specs.Acquiring.{GaveRef, GotRef}
use Rattle.table_entries.proofs.Shared.{ref_came}
use Rattle.course_laws.specs.Courses.{IsFinal, IsOrderly}
use Rattle.desc_pages.specs.Pages as pages
use Rattle.desc_pages.specs.Pages.{DiedDesc, GotDesc, PageValidated, TookDesc, TookDescType}
use Rattle.script_law.specs.Pages.{filled_page, get_page, take_page, with_fixed}
use Rattle.script_law.specs.Repeats.{first_of}
use Rattle.script_law.specs.Values.{Solo, Numbers, Outcome, behind, did, with_frames}
use Rattle.solo_pages.specs.Shown.{IsShown, SameBeside}
use Rattle.solo_pages.specs.Ends.{EndsAs, EndsSo, IsEnded}
use Rattle.solo_pages.proofs.Beside.{beside_alike, beside_same, beside_taken, beside_trans}
use Rattle.solo_pages.proofs.Coming.{behind_fine, behind_refused, did_so, shown_stays, stopped_so}
use Rattle.solo_pages.proofs.Fixing.{FixedPlain, fixes_plain, none_below, some_below}
use Rattle.solo_pages.proofs.Referring.{gave_ref, ref_refused, ref_taken}
use Rattle.solo_pages.proofs.Steps.{moves_beside}
use Rattle.solo_pages.proofs.Typing.{begun_type, counted_type, other_type}
use Rattle.solo_pages.proofs.Waits.{type_unended}
use Rattle.solo_pages.proofs.Whole.{IsReadyFor, dead_whole, kinded_whole, live_whole, ready_for, referred_whole, taken_whole}

-- the newer of two kind words
kinded_under : (n : Machine) (m : Words) (p q : Plain) (f : ℕ) (k l : KindWord) → ((g : ℕ) → q.shares g ≡ p.shares g) → ((g : ℕ) → q.kinds g ≡ (if g == f then l else p.kinds g)) → ((g i : ℕ) → q.cells g i ≡ p.cells g i) → Describes n m (with_kind f k q) → Describes n m (with_kind f k p)
kinded_under n m p q f k l shares kinds cells d =
    record {
      shares = λ g inside. sym (shares g) ∙ d.shares g inside;
      kinds = λ g inside. by (g == f) g (kinds g) ∙ d.kinds g inside;
      cells = λ g i inside few. sym (cells g i) ∙ d.cells g i inside few;
    }
  where
    by : (b : Bool) (g : ℕ) → q.kinds g ≡ (if b then l else p.kinds g) → (if b then k else p.kinds g) ≡ (if b then k else q.kinds g)
    by true g is = refl
    by false g is = sym is

found_there : (v w : PortValue) (f i word : ℕ) → Moves v w (Cell f i) Load steps.Look None word → is_telling v ≡ true → told_word v (Cell f i) ≡ word
found_there v w f i word looks telling = told_there v w (Cell f i) Load steps.Look None word looks telling

-- ---- under a reference
module _ (n : Machine) (s : ℕ) (u : PortValue) (f owner : ℕ) (y : Solo) (machine : IsMachine n) (same : u.post.machine ≡ n) (telling : is_telling u ≡ true) (is : IsShown n s (told_word u) y) (inside : f < n.frames) (ready : IsReadyFor n f Desc (told_word u (Kind f))) where
  abbrev q : Plain
  q = y.frames

  abbrev kind : KindWord
  kind = y.frames.kinds f

  abbrev bad : ℕ → Bool
  bad = λ i. is_none (fixed (y.frames.cells f i))

  abbrev filled : Outcome
  filled = filled_page f y (first_of 512 0 (λ i. is_none (fixed (y.frames.cells f i))))

  abbrev counted : Outcome
  counted = behind y (take_kind fine f Desc y.frames (y.frames.kinds f)) did

  not_dead : is_dead kind ≡ false → take_page f y kind ≡ counted
  not_dead off = ap (λ b. if b then filled else counted) off

  is_filled : is_dead kind ≡ true → take_page f y kind ≡ filled
  is_filled on = ap (λ b. if b then filled else counted) on

  -- ---- of another type
  untyped_so : (x w : PortValue) (r : Refusal) → type_stop f Desc (told_word u (Kind f)) ≡ Some (Refused r) → Leaves x (told_word u) → Came u x → GaveRef x w f → EndsSo {A = Unit {0}} n s (told_word w) (take_page f y kind) (Err (Refused r))
  untyped_so x w r stop leaves came back =
      let o = other_type n (told_word u) q f Desc is.frames inside r stop in
      let at_x = described_alike n (told_word x) (told_word u) q (same_alike (told_word x) (told_word u) leaves) is.frames in
      let left = gave_ref n x w f q (ap (λ (p : Post). p.machine) (came_post u x came) ∙ same) (came_telling u x came ∙ telling) at_x back in
      let ends : EndsAs {A = Unit {0}} n (told_word w) (take_kind fine f Desc q kind) (Err (Refused r)) = (
        _,
        ap (λ (c : PlainOutcome). c.refusal) o.takes,
        o.same,
        subst (λ (c : PlainOutcome). Describes n (told_word w) c.left) (sym o.takes) left.0,
      ) in
      subst (λ c. EndsSo {A = Unit {0}} n s (told_word w) c (Err (Refused r))) (sym (not_dead o.dead))
      (behind_refused n s (told_word u) (told_word w) y (take_kind fine f Desc q kind) did r is (beside_trans (told_word u) (told_word x) (told_word w) (beside_same (told_word u) (told_word x) leaves) left.1)
      (taken_whole n f Desc q inside is.whole) ends)

  untyped_by : (x w : PortValue) (e : Stop) → IsFinal e → TookDescType u x f owner (Err e) → GaveRef x w f → EndsSo {A = Unit {0}} n s (told_word w) (take_page f y kind) (Err e)
  untyped_by x w (Refused r) final type back = untyped_so x w r (type.plain telling).0 (type.plain telling).1 (does_came u x _ type.found) back
  untyped_by x w (Paused r) final type back = absurd final

  -- ---- once more
  counted_so : (w : PortValue) → TookDescType u w f owner (Ok types.Counted) → EndsSo {A = Unit {0}} n s (told_word w) (take_page f y kind) (Ok tt)
  counted_so w type =
      let a = type.plain telling in
      let c = counted_type n (told_word u) (told_word w) q f Desc machine is.frames inside (ready a.0) a.0 refl refl a.1 a.2 in
      let beside = beside_trans (told_word u) (taken f Desc types.Counted (told_word u)) (told_word w) (beside_taken f Desc types.Counted (told_word u)) (beside_alike (taken f Desc types.Counted (told_word u)) (told_word w) a.2) in
      let o = take_kind fine f Desc q kind in
      let left = subst (λ (b : PlainOutcome). Describes n (told_word w) b.left) (sym c.takes) c.describes in
      did_so n s (told_word w) (take_page f y kind) (with_frames o.left y) (not_dead c.dead ∙ behind_fine y o did (ap (λ (b : PlainOutcome). b.refusal) c.takes))
      (shown_stays n s (told_word u) (told_word w) y o.left is beside left (taken_whole n f Desc q inside is.whole))

  -- ---- in work: its words are read
  module _ (x : PortValue) (dead : is_dead kind ≡ true) (on_x : x.post.machine ≡ n) (tells_x : is_telling x ≡ true) (begun : Describes n (told_word x) (with_kind f (work_kind Desc false 0) q)) (from : SameBeside (told_word u) (told_word x)) where
    abbrev work : Plain
    work = with_kind f (work_kind Desc false 0) q

    -- up to a word without a fixed form
    module _ (i word : ℕ) (few : i < 512) (z w : PortValue) (fix : FixedPlain n x z f i work) (tells_z : is_telling z ≡ true) (on_z : z.post.machine ≡ n) (here : told_word z (Cell f i) ≡ word) (none : fixed word ≡ None) (died : DiedDesc z w f) where
      was : q.cells f i ≡ word
      was = begun.cells f i inside few ∙ sym (fix.are.filled.others (Cell f i) (λ j low e. let k : i ≡ j = cc in omega (arith, k, low))) ∙ here

      first : first_of 512 0 bad ≡ Some i
      first = some_below 512 i bad few (λ j low. ap (λ c. is_none (fixed c)) (begun.cells f j inside (omega (arith, low, few))) ∙ fix.are.had j low) (ap (λ c. is_none (fixed c)) was ∙ ap (λ (o : Option ℕ). is_none o) none)

      abbrev left : Plain
      left = with_fixed f i q

      tells_seen : is_telling died.seen ≡ true
      tells_seen = came_telling z died.seen (moves_came z died.seen Clock Load steps.Look None died.clock died.looks) ∙ tells_z

      tells_dead : is_telling died.dead ≡ true
      tells_dead = came_telling died.seen died.dead (moves_came died.seen died.dead (Kind f) _ steps.Kind None died.old died.stores) ∙ tells_seen

      on_dead : died.dead.post.machine ≡ n
      on_dead =
          ap (λ (p : Post). p.machine) (came_post z died.dead (came_trans z died.seen died.dead (moves_came z died.seen Clock Load steps.Look None died.clock died.looks) (moves_came died.seen died.dead (Kind f) _ steps.Kind None died.old died.stores))) ∙ on_z

      at_seen : Describes n (told_word died.seen) (with_fixed f i work)
      at_seen = described_leaves n died.seen (told_word z) (with_fixed f i work) (load_tells z died.seen Clock steps.Look None died.clock died.looks tells_z) fix.frames

      at_dead : Describes n (told_word died.dead) (with_kind f (dead_kind Desc false 0) left)
      at_dead =
          let low : died.clock < 2 ^ 36 = clock_is_small z.post.machine z.post.vcpu z.holdings died.clock died.looks.finds in
          let k = dead_kind Desc false died.clock in
          let stored = described_leaves n died.dead (set_kind f k (told_word died.seen)) (with_kind f (dead_kind Desc false 0) (with_fixed f i work)) (leaves died.seen died.dead (Kind f) (Store (kind_write k)) steps.Kind None died.old died.stores tells_seen)
          (kinded n (told_word died.seen) (with_fixed f i work) f k (dead_kind Desc false 0) at_seen (sym (ap sober (fields_write k (dead_is Desc refl false died.clock low))))) in
          kinded_under n (told_word died.dead) left (with_fixed f i work) f (dead_kind Desc false 0) (work_kind Desc false 0) (λ g. refl) (λ g. refl) (λ g j. refl) stored

      gone : Describes n (told_word w) (closed f Desc left) × SameBeside (told_word died.dead) (told_word w)
      gone = gave_ref n died.dead w f (with_kind f (dead_kind Desc false 0) left) on_dead tells_dead at_dead died.gives

      beside_all : SameBeside (told_word u) (told_word w)
      beside_all =
          beside_trans (told_word u) (told_word x) (told_word w) from
          (beside_trans (told_word x) (told_word z) (told_word w) fix.beside
          (beside_trans (told_word z) (told_word died.seen) (told_word w) (moves_beside z died.seen Clock Load steps.Look None died.clock tt died.looks)
          (beside_trans (told_word died.seen) (told_word died.dead) (told_word w) (moves_beside died.seen died.dead (Kind f) _ steps.Kind None died.old tt died.stores) gone.1)))

      pub unfixed_so : EndsSo {A = Unit {0}} n s (told_word w) (take_page f y kind) (Err (Refused (refusals.BadDescriptor f i word)))
      unfixed_so =
          stopped_so n s (told_word w) (take_page f y kind) (with_frames (closed f Desc left) y) (refusals.BadDescriptor f i word) (Numbers (refusals.BadDescriptor f i (q.cells f i)))
          (is_filled dead ∙ ap (filled_page f y) first) (ap (refusals.BadDescriptor f i) (sym was))
          (shown_stays n s (told_word u) (told_word w) y (closed f Desc left) is beside_all gone.0 (kinded_whole n f (dead_kind Desc false 0) left (dead_whole Desc false) is.whole))

    -- all of them
    fixed_so : (z w : PortValue) (e : ℕ) → FixedPlain n x z f 512 work → is_telling z ≡ true → Moves z w (Kind f) (Store (kind_write (live_kind Desc 1))) steps.Kind None e → EndsSo {A = Unit {0}} n s (told_word w) (take_page f y kind) (Ok tt)
    fixed_so z w old fix tells_z stores =
        let k = live_kind Desc 1 in
        let left = with_kind f k (with_fixed f 512 q) in
        let first : first_of 512 0 bad ≡ None = none_below 512 bad (λ j low. ap (λ c. is_none (fixed c)) (begun.cells f j inside low) ∙ fix.are.had j low) in
        let stored = described_leaves n w (set_kind f k (told_word z)) (with_kind f k (with_fixed f 512 work)) (leaves z w (Kind f) (Store (kind_write k)) steps.Kind None old stores tells_z)
        (kinded n (told_word z) (with_fixed f 512 work) f k k fix.frames (live_sober_one Desc refl)) in
        let live = kinded_under n (told_word w) (with_fixed f 512 q) (with_fixed f 512 work) f k (work_kind Desc false 0) (λ g. refl) (λ g. refl) (λ g j. refl) stored in
        let beside = beside_trans (told_word u) (told_word x) (told_word w) from (beside_trans (told_word x) (told_word z) (told_word w) fix.beside (moves_beside z w (Kind f) _ steps.Kind None old tt stores)) in
        did_so n s (told_word w) (take_page f y kind) (with_frames left y) (is_filled dead ∙ ap (filled_page f y) first)
        (shown_stays n s (told_word u) (told_word w) y left is beside live (kinded_whole n f k (with_fixed f 512 q) (live_whole Desc) is.whole))

    pub validated_so : (w : PortValue) (answer : Result (Unit {0}) Stop) → PageValidated x w f answer → EndsSo n s (told_word w) (take_page f y kind) answer
    validated_so w _ (pages.unfixed z e i word few un died) =
        let fix = fixes_plain n x un.at f i e [] work tells_x begun inside un.fixes in
        let to_at = does_came x un.at _ un.fixes.visits in
        let tells_at = came_telling x un.at to_at ∙ tells_x in
        let looks = load_tells un.at z (Cell f i) steps.Look None word un.looks tells_at in
        let to_z = moves_came un.at z (Cell f i) Load steps.Look None word un.looks in
        let fix_z : FixedPlain n x z f i work =
        record {
          are = record { filled = record { cells = λ j low. looks (Cell f j) ∙ fix.are.filled.cells j low; others = λ c off. looks c ∙ fix.are.filled.others c off }; had = fix.are.had };
          frames = described_leaves n z (told_word un.at) (with_fixed f i work) looks fix.frames;
          beside = beside_trans (told_word x) (told_word un.at) (told_word z) fix.beside (beside_same (told_word un.at) (told_word z) looks);
        } in
        unfixed_so i word few z w fix_z (came_telling un.at z to_z ∙ tells_at) (ap (λ (p : Post). p.machine) (came_post x z (came_trans x un.at z to_at to_z)) ∙ on_x) (looks (Cell f i) ∙ found_there un.at z f i word un.looks tells_at) un.none died
    validated_so w _ (pages.fixed z e old fixes stores) =
        let fix = fixes_plain n x z f 512 e [] work tells_x begun inside fixes in
        fixed_so z w old fix (came_telling x z (does_came x z _ fixes.visits) ∙ tells_x) stores

  -- ---- each way
  pub took_so : (w : PortValue) (answer : Result (Unit {0}) Stop) → IsEnded answer → TookDesc u f owner w answer → EndsSo n s (told_word w) (take_page f y kind) answer
  took_so w _ ended (pages.untyped x z stop type back) = untyped_by x w stop ended type back
  took_so w _ ended (pages.counted z type) = counted_so w type
  took_so w _ ended (pages.waiting x z stamp stop type leaving) = absurd (type_unended u x f owner Desc true stamp stop type.found ended)
  took_so w _ ended (pages.read x z answer type page) =
      let a = type.plain telling in
      let b = begun_type n (told_word u) (told_word x) q f Desc machine is.frames inside (ready a.0) a.0 refl refl 0 true a.1 a.2 in
      let came = does_came u x _ type.found in
      let t = types.InWork 0 true in
      let beside = beside_trans (told_word u) (taken f Desc t (told_word u)) (told_word x) (beside_taken f Desc t (told_word u)) (beside_alike (taken f Desc t (told_word u)) (told_word x) a.2) in
      validated_so x b.dead (ap (λ (p : Post). p.machine) (came_post u x came) ∙ same) (came_telling u x came ∙ telling) b.describes beside w answer page

-- ---- with a reference of its own
module _ (n : Machine) (s : ℕ) (v : PortValue) (f owner : ℕ) (x : Solo) (machine : IsMachine n) (same : v.post.machine ≡ n) (telling : is_telling v ≡ true) (orderly : IsOrderly n (told_word v)) (is : IsShown n s (told_word v) x) where
  abbrev o : PlainOutcome
  o = take_reference n owner f x.frames

  abbrev lent : Solo
  lent = with_frames o.left x

  abbrev next : Solo → Outcome
  next = λ s. take_page f s (s.frames.kinds f)

  unreferred_so : (w : PortValue) (e : Stop) → IsFinal e → GotRef v w f owner (Err e) → EndsSo {A = ℕ} n s (told_word w) (get_page n owner f x) (Err e)
  unreferred_so w (Refused y) final ref =
      let r = ref_refused n v w owner f x.frames y same telling is.frames ref in
      behind_refused n s (told_word v) (told_word w) x o next y is (beside_same (told_word v) (told_word w) r.same) (referred_whole n owner f x.frames is.whole) r.ends
  unreferred_so w (Paused y) final ref = absurd final

  taken_so : (u w : PortValue) (answer : Result (Unit {0}) Stop) → IsEnded answer → GotRef v u f owner (Ok f) → TookDesc u f owner w answer → EndsSo n s (told_word w) (get_page n owner f x) answer
  taken_so u w answer ended ref took =
      let r = ref_taken n v u owner f x.frames same machine telling is.frames ref in
      let came = ref_came v u f owner _ ref in
      let at_u : IsShown n s (told_word u) lent = shown_stays n s (told_word v) (told_word u) x o.left is r.beside r.frames (referred_whole n owner f x.frames is.whole) in
      subst (λ c. EndsSo n s (told_word w) c answer) (sym (behind_fine x o next r.free))
      (took_so n s u f owner lent machine (ap (λ (p : Post). p.machine) (came_post v u came) ∙ same) (came_telling v u came ∙ telling) at_u r.lent.inside (ready_for n v u owner f Desc x.frames is.frames is.whole orderly r) w answer ended took)

  pub got_desc_so : (w : PortValue) (answer : Result ℕ Stop) → IsEnded answer → GotDesc v f owner w answer → EndsSo n s (told_word w) (get_page n owner f x) answer
  got_desc_so w _ ended (pages.unreferred z e ref) = unreferred_so w e ended ref
  got_desc_so w _ ended (pages.untaken u z e ref took) = again e (taken_so u w (Err e) ended ref took)
    where
      again : (e : Stop) → EndsSo {A = Unit {0}} n s (told_word w) (get_page n owner f x) (Err e) → EndsSo {A = ℕ} n s (told_word w) (get_page n owner f x) (Err e)
      again (Refused y) a = a
      again (Paused y) a = a
  got_desc_so w _ ended (pages.had u z ref took) = taken_so u w (Ok tt) tt ref took
