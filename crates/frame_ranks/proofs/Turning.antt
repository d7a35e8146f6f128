-- One frame is changed: none falls, and the tables in work are those again.
use Rattle.std.proofs.Common.{◌≡◌, ◌≢◌, ◌⊎◌, ℕ, ◌+◌, ◌<◌, ◌≤◌, ◌==◌, Bool, true, false, List, [], ◌∷◌, refl, sym, ◌∙◌, subst, inl, inr, arith}
use Rattle.std.proofs.lemmas.Bool.Decides.{nat_tests}
use Rattle.xp_words.specs.Machine.{Machine}
use Rattle.xp_words.specs.declared.kind.KindWord.{KindWord}
use Rattle.xp_board.specs.Readings.{is_work, kind_at}
use Rattle.step_maker.specs.Plain.{Words}
use Rattle.partial_state.specs.declared.stack.TableWork.{TableWork}
use Rattle.table_entries.specs.Acquiring.{one_entry_more}
use Rattle.course_laws.proofs.Under.{IsOff}
use Rattle.frame_ranks.specs.Ranks.{rank_at, rank_of}
use Rattle.frame_ranks.proofs.Facing.{Calm, Turned, same_live, same_number, same_rank, same_work}
use Rattle.frame_ranks.proofs.Valuing.{Further, Goes, Moved, Works, idle_off, worth, worth_at, worth_done, worth_more, worth_off}

-- the one frame, or another
either : (f g : ℕ) → (f ≡ g) ⊎ (f ≢ g)
either f g = by (f == g) refl
  where
    by : (b : Bool) → (f == g) ≡ b → (f ≡ g) ⊎ (f ≢ g)
    by true is = inl (grind (arith, nat_tests))
    by false is = inr (grind (arith, nat_tests))

-- a live frame stays so, with no fewer type counts
abbrev pub Lasts : KindWord → KindWord → Type 0
Lasts k l = k.validated ≡ true → (l.validated ≡ true) × (k.number ≤ l.number)

same_lasts : (k l j : KindWord) → (j.validated ≡ l.validated) → (l.validated ≡ true → j.number ≡ l.number) → Lasts k l → Lasts k j
same_lasts k l j live number lasts is = let a = lasts is in let e = number a.0 in let b = a.1 in (live ∙ a.0, omega arith)

pub dead_lasts : (k l : KindWord) → k.validated ≡ false → Lasts k l
dead_lasts k l off is = absurd cc

working_dead : (k : KindWord) → is_work k ≡ true → k.validated ≡ false
working_dead k is = by k.validated refl is
  where
    by : (b : Bool) → k.validated ≡ b → is_work k ≡ true → k.validated ≡ false
    by true e is = absurd (grind (arith, nat_tests))
    by false e is = e

-- ---- no frame is changed
module _ (n : Machine) (m x : Words) (ts : List TableWork) (calm : Calm m x) where
  calm_goes : Goes m ts x ts
  calm_goes =
      record {
        ranks = λ f. worth_more ts f (rank_at m f) (rank_at x f) (let e = same_rank (kind_at x f) (kind_at m f) (calm.faces f) in omega arith);
        counts = λ f live. (same_live (kind_at x f) (kind_at m f) (calm.faces f) ∙ live, (let e = same_number (kind_at x f) (kind_at m f) (calm.faces f) live in omega arith));
        olds = calm.olds;
        lives = calm.lives;
      }

  calm_all : (us : List TableWork) → Works n m us → Works n x us
  calm_all [] all = tt
  calm_all (t ∷ us) all = (record { inside = all.0.inside; work = same_work (kind_at x t.frame) (kind_at m t.frame) (calm.faces t.frame) ∙ all.0.work; few = all.0.few }, all.1, calm_all us all.2)

  pub calm_moved : Works n m ts → Moved n m ts x ts
  calm_moved w = record { works = calm_all ts w; goes = calm_goes }

-- ---- frame g is
module _ (n : Machine) (m x : Words) (g : ℕ) (k : KindWord) (turned : Turned m x g k) where
  rank_here : rank_at x g ≡ rank_of k
  rank_here = same_rank (kind_at x g) k turned.here

  rank_there : (f : ℕ) → f ≢ g → rank_at x f ≡ rank_at m f
  rank_there f off = same_rank (kind_at x f) (kind_at m f) (turned.others f off)

  work_there : (f : ℕ) → f ≢ g → is_work (kind_at x f) ≡ is_work (kind_at m f)
  work_there f off = same_work (kind_at x f) (kind_at m f) (turned.others f off)

  others_in : (us : List TableWork) → IsOff us g → Works n m us → Works n x us
  others_in [] off all = tt
  others_in (t ∷ us) off all = (record { inside = all.0.inside; work = work_there t.frame off.0 ∙ all.0.work; few = all.0.few }, all.1, others_in us off.1 all.2)

  lasting : Lasts (kind_at m g) k → (f : ℕ) → Lasts (kind_at m f) (kind_at x f)
  lasting lasts f = elim (either f g) [
    | inl at ↦ subst (λ h. Lasts (kind_at m h) (kind_at x h)) (sym at) (same_lasts (kind_at m g) k (kind_at x g) (same_live (kind_at x g) k turned.here) (λ live. same_number (kind_at x g) k turned.here live) lasts)
    | inr off ↦ λ live. (same_live (kind_at x f) (kind_at m f) (turned.others f off) ∙ live, (let e = same_number (kind_at x f) (kind_at m f) (turned.others f off) live in omega arith))
  ]

  -- from tables ts to tables us: what is to be seen of their ranks, at g and elsewhere
  goes_by : (ts us : List TableWork) → Lasts (kind_at m g) k → worth ts g (rank_at m g) ≤ worth us g (rank_of k) → ((f r : ℕ) → f ≢ g → worth ts f r ≤ worth us f r) → Goes m ts x us
  goes_by ts us lasts here there =
      record {
        ranks = λ f. elim (either f g) [
          | inl at ↦ subst (λ h. worth ts h (rank_at m h) ≤ worth us h (rank_at x h)) (sym at) (subst (λ r. worth ts g (rank_at m g) ≤ worth us g r) (sym rank_here) here)
          | inr off ↦ subst (λ r. worth ts f (rank_at m f) ≤ worth us f r) (sym (rank_there f off)) (there f (rank_at m f) off)
        ];
        counts = lasting lasts;
        olds = turned.olds;
        lives = turned.lives;
      }

  further_by : (ts us : List TableWork) → g < n.frames → worth ts g (rank_at m g) < worth us g (rank_of k) → Further n m ts x us
  further_by ts us inside higher = record { frame = g; real = inside; higher = subst (λ r. worth ts g (rank_at m g) < worth us g r) (sym rank_here) higher }

  -- beside all tables in work, before and after
  module _ (ts : List TableWork) (w : Works n m ts) (idle : is_work (kind_at m g) ≡ false) where
    off_all : IsOff ts g
    off_all = idle_off n m ts g w idle

    pub beside : rank_at m g ≤ rank_of k → Lasts (kind_at m g) k → Moved n m ts x ts
    beside more lasts =
        record {
          works = others_in ts off_all w;
          goes = goes_by ts ts lasts (let a = worth_off ts g (rank_at m g) off_all in let b = worth_off ts g (rank_of k) off_all in omega arith) (λ f r off. omega arith);
        }

    pub beside_further : g < n.frames → rank_at m g < rank_of k → Further n m ts x ts
    beside_further inside higher = further_by ts ts inside (let a = worth_off ts g (rank_at m g) off_all in let b = worth_off ts g (rank_of k) off_all in omega arith)

    -- it comes into work, as the innermost
    pub into : (t : TableWork) (us : List TableWork) → t.frame ≡ g → g < n.frames → t.done ≤ 512 → is_work k ≡ true → (kind_at m g).validated ≡ false → rank_at m g ≤ t.done + 2 → IsOff us g → Works n m us →
        ((f r : ℕ) → f ≢ g → worth ts f r ≤ worth (t ∷ us) f r) → Moved n m ts x (t ∷ us)
    into t us at inside few work dead low off all more =
        let here : worth (t ∷ us) g (rank_of k) ≡ t.done + 2 = subst (λ h. worth (t ∷ us) h (rank_of k) ≡ t.done + 2) at (worth_at t us (rank_of k)) in
        record {
          works = (record { inside = subst (λ h. h < n.frames) (sym at) inside; work = subst (λ h. is_work (kind_at x h) ≡ true) (sym at) (same_work (kind_at x g) k turned.here ∙ work); few = few }, subst (IsOff us) (sym at) off, others_in us off all);
          goes = goes_by ts (t ∷ us) (dead_lasts (kind_at m g) k dead) (let a = worth_off ts g (rank_at m g) off_all in omega arith) more;
        }

  -- the innermost table's frame goes out of work
  module _ (t : TableWork) (ts us : List TableWork) (at : t.frame ≡ g) (w : Works n m (t ∷ ts)) (off : IsOff us g) where
    was_at : worth (t ∷ ts) g (rank_at m g) ≡ t.done + 2
    was_at = subst (λ h. worth (t ∷ ts) h (rank_at m g) ≡ t.done + 2) at (worth_at t ts (rank_at m g))

    pub out : Works n m us → t.done + 2 ≤ rank_of k → ((f r : ℕ) → f ≢ g → worth (t ∷ ts) f r ≤ worth us f r) → Moved n m (t ∷ ts) x us
    out all low more =
        record {
          works = others_in us off all;
          goes = goes_by (t ∷ ts) us (dead_lasts (kind_at m g) k (working_dead (kind_at m g) (subst (λ h. is_work (kind_at m h) ≡ true) at w.0.work)))
              (let a = worth_off us g (rank_of k) off in let b = was_at in omega arith) more;
        }

    pub out_further : t.done + 2 < rank_of k → Further n m (t ∷ ts) x us
    out_further high = further_by (t ∷ ts) us (subst (λ h. h < n.frames) at w.0.inside) (let a = worth_off us g (rank_of k) off in let b = was_at in omega arith)

-- ---- an entry more is done with
module _ (n : Machine) (m : Words) (t : TableWork) (ts : List TableWork) (w : Works n m (t ∷ ts)) where
  pub more_works : t.done < 512 → Works n m (one_entry_more t ∷ ts)
  more_works few = let b = w.0 in (record { inside = b.inside; work = b.work; few = omega arith }, w.1, w.2)

  pub entry_moved : t.done < 512 → Moved n m (t ∷ ts) m (one_entry_more t ∷ ts)
  entry_moved few =
      record {
        works = more_works few;
        goes = record { ranks = λ f. worth_done t (t.done + 1) ts f (rank_at m f) (omega arith); counts = λ f live. (live, omega arith); olds = λ s which. refl; lives = λ d. refl };
      }

  pub entry_further : Further n m (t ∷ ts) m (one_entry_more t ∷ ts)
  entry_further =
      record {
        frame = t.frame;
        real = w.0.inside;
        higher = (let a = worth_at t ts (rank_at m t.frame) in let b = worth_at (one_entry_more t) ts (rank_at m t.frame) in omega arith);
      }
