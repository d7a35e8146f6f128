-- Frames in work: what a hand has of a frame after one is added, taken out or changed, and what all vCPUs have of it.
use Rattle.std.proofs.Common.{◌≡◌, ℕ, ◌+◌, ◌==◌, if◌then◌else◌, Bool, true, false, List, [], ◌∷◌, Option, Some, None, refl, ap, inl, inr}
use Rattle.std.proofs.lemmas.Bool.{cases_Bool}
use Rattle.xp_words.specs.KindWords.{kind_fields}
use Rattle.xp_board.specs.declared.holdings.Unsettled.{Unsettled}
use Rattle.xp_board.specs.declared.holdings.Work.{Work}
use Rattle.xp_board.specs.Lists.{first_by, changed_by}
use Rattle.xp_board.specs.Hands.{work_on, changed_work}
use Rattle.xp_board.specs.After.{learned_last, learned_work}
use Rattle.xp_board.specs.Recorded.{recorded_in, recorded_number}
use Rattle.xp_board.proofs.Learned.{learned_frame}

-- ---- as many entries recorded, and unsettled since the same step or settled
abbrev pub SinceKept : Option Unsettled → Option Unsettled → Type 0
SinceKept None None = Unit {0}
SinceKept (Some u) (Some v) = v.since ≡ u.since
SinceKept _ _ = ⊥

pub record WorkKept (a b : Work) : Type 0 where
  pub recorded : b.recorded ≡ a.recorded
  pub unsettled : SinceKept a.unsettled b.unsettled

abbrev pub WorkKeptIn : Option Work → Option Work → Type 0
WorkKeptIn None None = Unit {0}
WorkKeptIn (Some a) (Some b) = WorkKept a b
WorkKeptIn _ _ = ⊥

pub kept_work : (a b : Option Work) (e : Work) → WorkKeptIn a b → a ≡ Some e → (e2 : Work) × (b ≡ Some e2) × WorkKept e e2
kept_work None b e k h = absurd (cc)
kept_work (Some a) None e k h = absurd k
kept_work (Some a) (Some b) e k h = let at : a ≡ e = cc in (b, refl, rw at at k)

pub kept_since : (a b : Option Unsettled) (u : Unsettled) → SinceKept a b → a ≡ Some u → (v : Unsettled) × (b ≡ Some v) × (v.since ≡ u.since)
kept_since None b u k h = absurd (cc)
kept_since (Some a) None u k h = absurd k
kept_since (Some a) (Some b) u k h = let at : a ≡ u = cc in (b, refl, rw at at k)

kept_number : (a b : Option Work) → WorkKeptIn a b → recorded_number b ≡ recorded_number a
kept_number None None k = refl
kept_number None (Some b) k = absurd k
kept_number (Some a) None k = absurd k
kept_number (Some a) (Some b) k = ap Some k.recorded

pub recorded_same : (a b : List Work) (f : ℕ) → WorkKeptIn (work_on f a) (work_on f b) → recorded_in b f ≡ recorded_in a f
unfolding recorded_in
recorded_same a b f k = kept_number (work_on f a) (work_on f b) k

since_same : (o : Option Unsettled) → SinceKept o o
since_same None = tt
since_same (Some u) = refl

pub work_same : (e : Work) → WorkKept e e
work_same e = record { recorded = refl; unsettled = since_same e.unsettled }

pub works_kept : (o : Option Work) → WorkKeptIn o o
works_kept None = tt
works_kept (Some e) = work_same e

-- ---- a cell is learned
since_by : (t : Bool) (w : ℕ) (u : Unsettled) → SinceKept (Some u) (if t then Some (record u { word = Some w }) else Some u)
since_by true w u = refl
since_by false w u = refl

since_last : (i recorded w : ℕ) (o : Option Unsettled) → SinceKept o (learned_last i recorded w o)
since_last i recorded w None = tt
since_last i recorded w (Some u) = since_by (i + 1 == recorded) w u

abbrev learned_more : ℕ → ℕ → ℕ → Work → Work
learned_more i w fixed e =
    record e { seen = Some (record { index = i; word = w }); unsettled = learned_last i e.recorded w e.unsettled; fixed = fixed }

kept_by : (t : Bool) (i w fixed : ℕ) (e : Work) → WorkKept e (if t then e else learned_more i w fixed e)
kept_by true i w fixed e = work_same e
kept_by false i w fixed e = record { recorded = refl; unsettled = since_last i e.recorded w e.unsettled }

learned_kept : (i w : ℕ) (e : Work) → WorkKept e (learned_work i w e)
learned_kept i w e = kept_by (kind_fields e.word).unflushed i w _ e

-- ---- lists
either : (t : Bool) (a b c d : Option Work) → WorkKeptIn a b → WorkKeptIn c d → WorkKeptIn (if t then a else c) (if t then b else d)
either true a b c d k l = k
either false a b c d k l = l

head_kept : (g k l : ℕ) (a b c d : Option Work) → l ≡ k → WorkKeptIn a b → WorkKeptIn c d → WorkKeptIn (if k == g then a else c) (if l == g then b else d)
head_kept g k l a b c d e h t = rw e (either (k == g) a b c d h t)

-- a change of the work on f that keeps frames, and what is recorded
pub changed_kept : (f g : ℕ) (change : Work → Work) (xs : List Work) → ((e : Work) → (change e).frame ≡ e.frame) → ((e : Work) → WorkKept e (change e)) →
    WorkKeptIn (work_on g xs) (work_on g (changed_work f change xs))
unfolding first_by changed_by
changed_kept f g change [] frame keeps = tt
changed_kept f g change (e ∷ es) frame keeps =
    elim (cases_Bool (e.frame == f)) [
      | inl at ↦ rw at (head_kept g e.frame (change e).frame (Some e) (Some (change e)) _ _ (frame e) (keeps e) (works_kept (work_on g es)))
      | inr off ↦ rw off (either (e.frame == g) (Some e) (Some e) _ _ (work_same e) (changed_kept f g change es frame keeps))
    ]

pub cell_kept : (f g i w : ℕ) (xs : List Work) → WorkKeptIn (work_on g xs) (work_on g (changed_work f (learned_work i w) xs))
cell_kept f g i w xs = changed_kept f g (learned_work i w) xs (learned_frame i w) (learned_kept i w)
