-- How far frames have come while tables are in work: a table in work as far as it would be left.
use Rattle.std.proofs.Common.{◌≡◌, ◌≢◌, ℕ, ◌+◌, ◌-◌, ◌<◌, ◌≤◌, ◌==◌, ◌||◌, if◌then◌else◌, Bool, true, false, List, [], ◌∷◌, refl, sym, ap, ◌∙◌, subst, arith}
use Rattle.std.proofs.lemmas.Bool.Decides.{nat_tests}
use Rattle.xp_words.specs.Machine.{Machine}
use Rattle.xp_words.specs.declared.place.Place.TheVariants.{Life}
use Rattle.xp_board.specs.Readings.{is_work, kind_at}
use Rattle.step_maker.specs.Plain.{Words}
use Rattle.partial_state.specs.declared.stack.TableWork.{TableWork}
use Rattle.table_entries.specs.Acquiring.{around_left, one_entry_more}
use Rattle.table_words.specs.OldWords.{old_place}
use Rattle.table_words.specs.declared.old_words.OldWord.{OldWord}
use Rattle.course_laws.proofs.Under.{IsOff}
use Rattle.frame_ranks.specs.Ranks.{rank_at}

-- ---- the rank of a frame whose own word has rank r, with these tables in work: what it is once all are left
abbrev pub worth_of : TableWork → List TableWork → ℕ → ℕ → ℕ
worth_of t [] f r = if f == t.frame then t.done + 2 else r
worth_of t (o ∷ ts) f r = if f == t.frame then t.done + 2 else worth_of (around_left t o) ts f r

abbrev pub worth : List TableWork → ℕ → ℕ → ℕ
worth [] f r = r
worth (t ∷ ts) f r = worth_of t ts f r

abbrev pub with_done : ℕ → TableWork → TableWork
with_done d t = record t { done = d }

more_if : (b : Bool) (x y r s : ℕ) → x ≤ y → r ≤ s → (if b then x else r) ≤ (if b then y else s)
more_if true x y r s a b = a
more_if false x y r s a b = b

worth_more_of : (t : TableWork) (ts : List TableWork) (f r s : ℕ) → r ≤ s → worth_of t ts f r ≤ worth_of t ts f s
worth_more_of t [] f r s more = more_if (f == t.frame) (t.done + 2) (t.done + 2) r s (omega arith) more
worth_more_of t (o ∷ ts) f r s more = more_if (f == t.frame) (t.done + 2) (t.done + 2) _ _ (omega arith) (worth_more_of (around_left t o) ts f r s more)

pub worth_more : (ts : List TableWork) (f r s : ℕ) → r ≤ s → worth ts f r ≤ worth ts f s
worth_more [] f r s more = more
worth_more (t ∷ ts) f r s more = worth_more_of t ts f r s more

frame_by : (b : Bool) (o : TableWork) → (if b then o else record o { done = o.done - 1 }).frame ≡ o.frame
frame_by true o = refl
frame_by false o = refl

pub around_frame : (t o : TableWork) → (around_left t o).frame ≡ o.frame
around_frame t o = frame_by (t.own || t.recorded) o

off_test : (t : TableWork) (f : ℕ) → t.frame ≢ f → (f == t.frame) ≡ false
off_test t f off = let other : f ≢ t.frame = λ e. off (sym e) in grind (arith, nat_tests)

worth_off_of : (t : TableWork) (ts : List TableWork) (f r : ℕ) → t.frame ≢ f → IsOff ts f → worth_of t ts f r ≡ r
worth_off_of t [] f r off all = ap (λ b. if b then t.done + 2 else r) (off_test t f off)
worth_off_of t (o ∷ ts) f r off all =
    ap (λ b. if b then t.done + 2 else worth_of (around_left t o) ts f r) (off_test t f off) ∙ worth_off_of (around_left t o) ts f r (λ e. all.0 (sym (around_frame t o) ∙ e)) all.1

pub worth_off : (ts : List TableWork) (f r : ℕ) → IsOff ts f → worth ts f r ≡ r
worth_off [] f r all = refl
worth_off (t ∷ ts) f r all = worth_off_of t ts f r all.0 all.1

itself : (f : ℕ) → (f == f) ≡ true
itself f = grind (arith, nat_tests)

pub worth_at : (t : TableWork) (ts : List TableWork) (r : ℕ) → worth (t ∷ ts) t.frame r ≡ t.done + 2
worth_at t [] r = ap (λ b. if b then t.done + 2 else r) (itself t.frame)
worth_at t (o ∷ ts) r = ap (λ b. if b then t.done + 2 else worth_of (around_left t o) ts t.frame r) (itself t.frame)

-- elsewhere than at the innermost one
pub worth_past : (t o : TableWork) (ts : List TableWork) (f r : ℕ) → f ≢ t.frame → worth (t ∷ o ∷ ts) f r ≡ worth (around_left t o ∷ ts) f r
worth_past t o ts f r off = ap (λ b. if b then t.done + 2 else worth_of (around_left t o) ts f r) (off_test t f (λ e. off (sym e)))

pub worth_alone : (t : TableWork) (f r : ℕ) → f ≢ t.frame → worth (t ∷ []) f r ≡ r
worth_alone t f r off = ap (λ b. if b then t.done + 2 else r) (off_test t f (λ e. off (sym e)))

-- more entries are done with
pub worth_done : (t : TableWork) (d : ℕ) (ts : List TableWork) (f r : ℕ) → t.done ≤ d → worth (t ∷ ts) f r ≤ worth (with_done d t ∷ ts) f r
worth_done t d [] f r more = more_if (f == t.frame) (t.done + 2) (d + 2) r r (omega arith) (omega arith)
worth_done t d (o ∷ ts) f r more = more_if (f == t.frame) (t.done + 2) (d + 2) (worth_of (around_left t o) ts f r) _ (omega arith) (omega arith)

-- the table around one that came into work
around_by : (b : Bool) (t : TableWork) (ts : List TableWork) (f r : ℕ) → worth (t ∷ ts) f r ≤ worth ((if b then one_entry_more t else record (one_entry_more t) { done = (one_entry_more t).done - 1 }) ∷ ts) f r
around_by true t ts f r = worth_done t (t.done + 1) ts f r (omega arith)
around_by false t ts f r = worth_done t (t.done + 1 - 1) ts f r (omega arith)

pub worth_around : (x t : TableWork) (ts : List TableWork) (f r : ℕ) → f ≢ x.frame → worth (t ∷ ts) f r ≤ worth (x ∷ one_entry_more t ∷ ts) f r
worth_around x t ts f r off = subst (λ y. worth (t ∷ ts) f r ≤ y) (sym (worth_past x (one_entry_more t) ts f r off)) (around_by (x.own || x.recorded) t ts f r)

same_by : (b : Bool) (t : TableWork) (ts : List TableWork) (f r : ℕ) → b ≡ true → worth ((if b then t else record t { done = t.done - 1 }) ∷ ts) f r ≡ worth (t ∷ ts) f r
same_by true t ts f r is = refl
same_by false t ts f r is = absurd (cc)

pub worth_same : (x t : TableWork) (ts : List TableWork) (f r : ℕ) → f ≢ x.frame → (x.own || x.recorded) ≡ true → worth (x ∷ t ∷ ts) f r ≡ worth (t ∷ ts) f r
worth_same x t ts f r off is = worth_past x t ts f r off ∙ same_by (x.own || x.recorded) t ts f r is

-- the table inside goes
gone_by : (b : Bool) (o : TableWork) (ts : List TableWork) (f r : ℕ) → worth ((if b then o else record o { done = o.done - 1 }) ∷ ts) f r ≤ worth (o ∷ ts) f r
gone_by true o ts f r = omega arith
gone_by false o [] f r = more_if (f == o.frame) (o.done - 1 + 2) (o.done + 2) r r (omega arith) (omega arith)
gone_by false o (p ∷ ts) f r = more_if (f == o.frame) (o.done - 1 + 2) (o.done + 2) (worth_of (around_left o p) ts f r) _ (omega arith) (omega arith)

pub worth_gone : (t o : TableWork) (ts : List TableWork) (f r : ℕ) → f ≢ t.frame → worth (t ∷ o ∷ ts) f r ≤ worth (o ∷ ts) f r
worth_gone t o ts f r off = subst (λ y. y ≤ worth (o ∷ ts) f r) (sym (worth_past t o ts f r off)) (gone_by (t.own || t.recorded) o ts f r)

-- ---- nothing falls, from words with these tables in work to words with those
pub record Goes (m : Words) (ts : List TableWork) (x : Words) (us : List TableWork) : Type 0 where
  pub ranks : (f : ℕ) → worth ts f (rank_at m f) ≤ worth us f (rank_at x f)
  pub counts : (f : ℕ) → (kind_at m f).validated ≡ true → ((kind_at x f).validated ≡ true) × ((kind_at m f).number ≤ (kind_at x f).number)
  pub olds : (s : ℕ) (which : OldWord) → x (old_place s which) ≡ m (old_place s which)
  pub lives : (d : ℕ) → x (Life d) ≡ m (Life d)

-- and a frame is further
pub record Further (n : Machine) (m : Words) (ts : List TableWork) (x : Words) (us : List TableWork) : Type 0 where
  pub frame : ℕ
  pub real : frame < n.frames
  pub higher : worth ts frame (rank_at m frame) < worth us frame (rank_at x frame)

pub goes_trans : (m : Words) (ts : List TableWork) (x : Words) (us : List TableWork) (y : Words) (xs : List TableWork) → Goes m ts x us → Goes x us y xs → Goes m ts y xs
goes_trans m ts x us y xs a b =
    record {
      ranks = λ f. let p = a.ranks f in let q = b.ranks f in omega arith;
      counts = λ f live. let p = a.counts f live in let q = b.counts f p.0 in (q.0, (let c = p.1 in let d = q.1 in omega arith));
      olds = λ s which. b.olds s which ∙ a.olds s which;
      lives = λ d. b.lives d ∙ a.lives d;
    }

pub further_then : (n : Machine) (m : Words) (ts : List TableWork) (x : Words) (us : List TableWork) (y : Words) (xs : List TableWork) → Further n m ts x us → Goes x us y xs → Further n m ts y xs
further_then n m ts x us y xs a b = record { frame = a.frame; real = a.real; higher = (let p = a.higher in let q = b.ranks a.frame in omega arith) }

pub then_further : (n : Machine) (m : Words) (ts : List TableWork) (x : Words) (us : List TableWork) (y : Words) (xs : List TableWork) → Goes m ts x us → Further n x us y xs → Further n m ts y xs
then_further n m ts x us y xs a b = record { frame = b.frame; real = b.real; higher = (let p = b.higher in let q = a.ranks b.frame in omega arith) }

-- ---- these tables are in work, each frame once
pub record InWork (n : Machine) (m : Words) (t : TableWork) : Type 0 where
  pub inside : t.frame < n.frames
  pub work : is_work (kind_at m t.frame) ≡ true
  pub few : t.done ≤ 512

abbrev pub Works : Machine → Words → List TableWork → Type 0
Works n m [] = Unit {0}
Works n m (t ∷ ts) = InWork n m t × IsOff ts t.frame × Works n m ts

pub idle_off : (n : Machine) (m : Words) (ts : List TableWork) (g : ℕ) → Works n m ts → is_work (kind_at m g) ≡ false → IsOff ts g
idle_off n m [] g all idle = tt
idle_off n m (t ∷ ts) g all idle = (λ e. let k = subst (λ f. is_work (kind_at m f) ≡ true) e all.0.work in cc, idle_off n m ts g all.2 idle)

-- both together
pub record Moved (n : Machine) (m : Words) (ts : List TableWork) (x : Words) (us : List TableWork) : Type 0 where
  pub works : Works n x us
  pub goes : Goes m ts x us

pub moved_then : (n : Machine) (m : Words) (ts : List TableWork) (x : Words) (us : List TableWork) (y : Words) (xs : List TableWork) → Moved n m ts x us → Moved n x us y xs → Moved n m ts y xs
moved_then n m ts x us y xs a b = record { works = b.works; goes = goes_trans m ts x us y xs a.goes b.goes }
