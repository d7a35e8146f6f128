-- What is settled leaves both old words at 0; and where they are, settling asks nothing.
use Rattle.std.proofs.Common.{◌≡◌, ◌≢◌, ℕ, ◌+◌, ◌-◌, Option, Bool, true, false, List, [], ◌∷◌, None, Result, Ok, Err, refl, sym, ap, subst, arith}
use Rattle.xp_words.specs.KindWords.{kind_fields}
use Rattle.xp_words.specs.declared.kind.KindWord.{KindWord}
use Rattle.xp_words.specs.declared.kind.PageType.{PageType}
use Rattle.xp_words.specs.declared.place.Place.TheVariants.{Vcpu}
use Rattle.xp_words.specs.declared.reply.Stop.{Stop}
use Rattle.xp_board.specs.declared.step.Act.TheVariants.{Load, Store}
use Rattle.xp_board.specs.declared.step.StepKind.TheVariants as kinds
use Rattle.xp_board.specs.Acts.{left_by}
use Rattle.xp_board.specs.Told.{Post, PortValue}
use Rattle.step_maker.specs.Moves.{Moves}
use Rattle.partial_state.specs.Levels.{level_type}
use Rattle.partial_state.specs.declared.stack.TableWork.{TableWork}
use Rattle.table_entries.specs.Acquiring.{GaveRef}
use Rattle.table_releases.specs.Found.{has_recorded}
use Rattle.table_releases.specs.declared.entries.Released.TheVariants.{Given, Opened}
use Rattle.table_words.specs.OldWords.{old_number, old_place}
use Rattle.table_words.specs.declared.old_words.OldWord.{OldWord}
use Rattle.table_words.specs.declared.old_words.OldWord.TheVariants.{First, Second}
use Rattle.level_release.specs.Course as course
use Rattle.level_release.proofs.Named.{not_flushed}
use Rattle.level_release.specs.Course.{Emptied, Lowered, RanDown, Settled, SettledOne, SettledPartial, ReleasedWithin}
use Rattle.vcpu_turn.proofs.Clearing.{Keeps, Known, drops, ends_dead, keeps_does, keeps_moves, known_found, known_left, known_on, puts, released}

-- ---- a release that ends leaves the own words alone
keeps_then : (v u w : PortValue) → Keeps v u → Keeps u w → Keeps v w
keeps_then v u w a b k known = b k (a k known)

gave_keeps : (v w : PortValue) (f : ℕ) → GaveRef v w f → Keeps v w
gave_keeps v w f gave = keeps_does v w _ (puts f) gave.found

lowered_keeps : (u w : PortValue) (us xs : List TableWork) (answer : Result Bool Stop) (done : Bool) → answer ≡ Ok done → Lowered u us w xs answer → Keeps u w
lowered_keeps _ _ _ _ _ done ok (course.Lowered.given v w t ts less gave) = keeps_does v w _ (released v.post.machine t.frame (511 - t.done) Given (level_type t.level)) gave.entry.found
lowered_keeps _ _ _ _ _ done ok (course.Lowered.opened v w t ts f recorded closing less gave) =
    keeps_does v w _ (released v.post.machine t.frame (511 - t.done) (Opened f recorded closing) (level_type t.level)) gave.entry.found
lowered_keeps _ _ _ _ _ done ok (course.Lowered.stopped v w t ts stop less gave) = absurd (cc)
lowered_keeps _ _ _ _ _ done ok (course.Lowered.emptied v w t ts full dead) = keeps_does v w _ (ends_dead t.frame (level_type t.level) false) dead.found

ran_keeps : {below : Option ℕ} → (v : PortValue) (ts : List TableWork) (w : PortValue) (us : List TableWork) (answers : List Bool) (answer : Result (Unit {0}) Stop) → answer ≡ Ok tt → RanDown below v ts w us answers answer → Keeps v w
ran_keeps v ts _ _ _ _ ok course.RanDown.begun = λ k known. known
ran_keeps v ts _ _ _ _ ok (course.RanDown.unasked u w us xs done answers ran lowered off) = keeps_then v u w (ran_keeps v ts u us answers (Ok tt) refl ran) (lowered_keeps u w us xs (Ok done) done refl lowered)
ran_keeps v ts _ _ _ _ ok (course.RanDown.asked u w us xs answers ran lowered on) = keeps_then v u w (ran_keeps v ts u us answers (Ok tt) refl ran) (lowered_keeps u w us xs _ _ refl lowered)
ran_keeps v ts _ _ _ _ ok (course.RanDown.due u w us xs answers ran lowered on) = absurd (cc)
ran_keeps v ts _ _ _ _ ok (course.RanDown.stopped u w us xs answers stop ran lowered) = absurd (cc)

emptied_keeps : {below : Option ℕ} → (v w : PortValue) (t : TableWork) (answers : List Bool) (answer : Result (Unit {0}) Stop) → answer ≡ Ok tt → Emptied below v t w answers answer → Keeps v w
emptied_keeps v _ t _ _ ok (course.Emptied.finished w answers ran) = ran_keeps v (t ∷ []) w [] answers (Ok tt) refl ran
emptied_keeps v _ t _ _ ok (course.Emptied.paused u w us answers stop ran unwound) = absurd (cc)

released_keeps : {below : Option ℕ} → (v w : PortValue) (f : ℕ) (kind : PageType) (answers : List Bool) (answer : Result (Unit {0}) Stop) → answer ≡ Ok tt → ReleasedWithin below v f kind w answers answer → Keeps v w
released_keeps v _ f kind _ _ ok (course.ReleasedWithin.plain w ordinary dropped) = keeps_does v w _ (drops f kind) dropped.found
released_keeps v _ f kind _ _ ok (course.ReleasedWithin.shared u w table dropped gave) = keeps_then v u w (keeps_moves v u _ _ _ _ _ refl dropped.lowers.step) (gave_keeps u w f gave)
released_keeps v _ f kind _ _ ok (course.ReleasedWithin.last u x w word level answers answer table at high dropped looks emptied) =
    keeps_then v u w (keeps_moves v u _ _ _ _ _ refl dropped.lowers.step) (keeps_then u x w (keeps_moves u x _ _ _ _ _ refl looks) (emptied_keeps x w _ answers answer ok emptied))

partial_keeps : (below : Option ℕ) (v w : PortValue) (f : ℕ) (k : KindWord) (answers : List Bool) (answer : Result (Unit {0}) Stop) → answer ≡ Ok tt → (b : Bool) → SettledPartial below v w f k answers answer b → Keeps v w
partial_keeps below v w f k answers answer ok true h = keeps_then v h.0 w (keeps_moves v h.0 _ _ _ _ _ refl h.5) (emptied_keeps h.0 w _ answers answer ok h.6)
partial_keeps below v w f k answers answer ok false h = keeps_does v w _ (ends_dead f k.kind k.unflushed) h.2

-- ---- what is settled
pub number_apart : (s j k : ℕ) → j ≢ k → Vcpu s j ≢ Vcpu s k
number_apart s j k off is = off (cc)

-- the word names none then, and what is known of the others stays
pub record Cleared (v w : PortValue) (which : OldWord) : Type 0 where
  pub clear : Known (old_number which) w
  pub others : (k : ℕ) → old_number which ≢ k → Known k v → Known k w

-- behind the two steps that take the frame out of the word
took_out : (v a b w : PortValue) (which : OldWord) (f : ℕ) → Moves v a (old_place v.post.vcpu which) Load kinds.Look None (f + 1) → Moves a b (old_place v.post.vcpu which) (Store 0) kinds.Context None (f + 1) → Keeps b w →
    Cleared v w which
unfolding left_by
took_out v a b w which f looks takes keeps =
    let post : a.post ≡ v.post = ap (λ (y : PortValue). y.post) looks.to in
    record {
      clear = keeps (old_number which) (known_left a b _ _ _ _ _ takes (old_number which) (ap (λ (q : Post). Vcpu q.vcpu (old_number which)) (sym post)) refl);
      others = λ k off known. keeps k
          (known_on a b _ _ _ _ _ takes k (subst (λ (q : Post). Vcpu v.post.vcpu (old_number which) ≢ Vcpu q.vcpu k) (sym post) (number_apart v.post.vcpu (old_number which) k off))
          (known_on v a _ _ _ _ _ looks k (number_apart v.post.vcpu (old_number which) k off) known));
    }

pub settled_one : {below : Option ℕ} → (v w : PortValue) (which : OldWord) (answers : List Bool) (answer : Result (Unit {0}) Stop) → answer ≡ Ok tt → SettledOne below v which w answers answer → Cleared v w which
unfolding left_by
settled_one v _ which _ _ ok (course.SettledOne.none w looks) =
    record { clear = known_left v w _ _ _ _ _ looks (old_number which) refl refl; others = λ k off known. known_on v w _ _ _ _ _ looks k (number_apart v.post.vcpu (old_number which) k off) known }
settled_one v _ which _ _ ok (course.SettledOne.live a b c w f word answers answer looks takes sees form released) =
    took_out v a b w which f looks takes (keeps_then b c w (keeps_moves b c _ _ _ _ _ refl sees) (released_keeps c w f (kind_fields word).kind answers answer ok released))
settled_one v _ which _ _ ok (course.SettledOne.partial a b c d w f word answers answer looks takes sees form resumes settled) =
    took_out v a b w which f looks takes
    (keeps_then b c w (keeps_moves b c _ _ _ _ _ refl sees)
    (keeps_then c d w (keeps_moves c d _ _ _ _ _ refl resumes) (partial_keeps _ d w f (kind_fields word) answers answer ok (has_recorded (kind_fields word).kind (kind_fields word)) settled)))
settled_one v _ which _ _ ok (course.SettledOne.lost a b c d w f word found looks takes sees form resumes other named) = absurd (cc)
settled_one v _ which _ _ ok (course.SettledOne.busy a b c w f word looks takes sees off away named) = absurd (cc)

-- both old words name no frame, and the vCPU runs
pub record IsClear (v : PortValue) : Type 0 where
  pub first : Known 2 v
  pub second : Known 3 v
  pub runs : Known 6 v

pub clear_on : (v w : PortValue) → Keeps v w → IsClear v → IsClear w
clear_on v w keeps clear = record { first = keeps 2 clear.first; second = keeps 3 clear.second; runs = keeps 6 clear.runs }

pub settled_clear : {below : Option ℕ} → (v w : PortValue) (answers : List Bool) (answer : Result (Unit {0}) Stop) → answer ≡ Ok tt → Known 6 v → Settled below v w answers answer → IsClear w
settled_clear v _ _ _ ok runs (course.Settled.first w answers stop one) = absurd (cc)
settled_clear v _ _ _ ok runs (course.Settled.both u w answers more answer one two) =
    let a = settled_one v u First answers (Ok tt) refl one in
    let b = settled_one u w Second more answer ok two in
    record { first = b.others 2 (λ e. omega (arith, e)) a.clear; second = b.clear; runs = b.others 6 (λ e. omega (arith, e)) (a.others 6 (λ e. omega (arith, e)) runs) }

-- ---- where they name none already, nothing is asked
known_old_word : (v : PortValue) → IsClear v → (which : OldWord) → Known (old_number which) v
known_old_word v clear First = clear.first
known_old_word v clear Second = clear.second

not_asked_word : (which : OldWord) → old_number which ≢ 4
not_asked_word First e = omega (arith, e)
not_asked_word Second e = omega (arith, e)

names_none : (v a : PortValue) (which : OldWord) (f : ℕ) → IsClear v → Moves v a (old_place v.post.vcpu which) Load kinds.Look None (f + 1) → ⊥
names_none v a which f clear looks =
    let is = known_found v a (old_number which) Load kinds.Look None (f + 1) looks (not_asked_word which) (not_flushed which) clear.runs (known_old_word v clear which) in
    omega (arith, is)

one_silent : {below : Option ℕ} → (v w : PortValue) (which : OldWord) (answers : List Bool) (answer : Result (Unit {0}) Stop) → IsClear v → SettledOne below v which w answers answer → (answers ≡ []) × (answer ≡ Ok tt)
one_silent v _ which _ _ clear (course.SettledOne.none w looks) = (refl, refl)
one_silent v _ which _ _ clear (course.SettledOne.live a b c w f word answers answer looks takes sees form released) = absurd (names_none v a which f clear looks)
one_silent v _ which _ _ clear (course.SettledOne.partial a b c d w f word answers answer looks takes sees form resumes settled) = absurd (names_none v a which f clear looks)
one_silent v _ which _ _ clear (course.SettledOne.lost a b c d w f word found looks takes sees form resumes other named) = absurd (names_none v a which f clear looks)
one_silent v _ which _ _ clear (course.SettledOne.busy a b c w f word looks takes sees off away named) = absurd (names_none v a which f clear looks)

pub settled_silent : {below : Option ℕ} → (v w : PortValue) (answers : List Bool) (answer : Result (Unit {0}) Stop) → IsClear v → Settled below v w answers answer → (answers ≡ []) × (answer ≡ Ok tt)
settled_silent v _ _ _ clear (course.Settled.first w answers stop one) = one_silent v w First answers (Err stop) clear one
settled_silent v _ _ _ clear (course.Settled.both u w answers more answer one two) =
    let a = settled_one v u First answers (Ok tt) refl one in
    let now : IsClear u = record { first = a.clear; second = a.others 3 (λ e. omega (arith, e)) clear.second; runs = a.others 6 (λ e. omega (arith, e)) clear.runs } in
    let early = one_silent v u First answers (Ok tt) clear one in
    let late = one_silent u w Second more answer now two in
    (rw (late.0, early.0) refl, late.1)
