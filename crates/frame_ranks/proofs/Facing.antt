-- What ranks and counts read of the words: kind words but for their stamps, and beside them the old words of vCPUs, and which domains are alive.
use Rattle.std.proofs.Common.{◌≡◌, ◌≢◌, ◌⊎◌, ℕ, ◌==◌, if◌then◌else◌, Bool, true, false, Option, refl, sym, ap, ◌∙◌, inl, inr, arith}
use Rattle.std.proofs.lemmas.Bool.Decides.{nat_tests}
use Rattle.xp_words.specs.KindWords.{kind_fields, kind_write}
use Rattle.xp_words.specs.declared.kind.KindWord.{KindWord}
use Rattle.xp_words.specs.declared.place.Place.{Place}
use Rattle.xp_words.specs.declared.place.Place.TheVariants.{Cell, Clock, Kind, Life, Map, Pages, Refs, Vcpu}
use Rattle.xp_board.specs.declared.step.Act.{Act}
use Rattle.xp_board.specs.declared.step.Act.TheVariants.{Load, Store}
use Rattle.xp_board.specs.declared.step.Mark.{Mark}
use Rattle.xp_board.specs.declared.step.StepKind.{StepKind}
use Rattle.xp_board.specs.Acts.{left_by}
use Rattle.xp_board.specs.Readings.{is_work, kind_at, owner_of, ref_count}
use Rattle.xp_board.specs.RefSteps.{owner_number}
use Rattle.xp_board.specs.Told.{PortValue, is_telling, told_word}
use Rattle.xp_board.proofs.PlaceTests.{equal_refl}
use Rattle.step_maker.specs.Moves.{Moves}
use Rattle.step_maker.specs.Plain.{Words}
use Rattle.step_maker.proofs.Telling.{load_tells, told_elsewhere, told_here}
use Rattle.step_maker.specs.Twins.{Alike, IsAlikeKind}
use Rattle.frame_words.specs.Plain.{got, lowered, put, set_free}
use Rattle.frame_types.specs.Plain.{less_kept, set_kind}
use Rattle.frame_types.specs.declared.standing.Standing.{Standing}
use Rattle.frame_types.specs.declared.standing.Standing.TheVariants as stands
use Rattle.table_words.specs.OldWords.{old_place}
use Rattle.table_words.specs.declared.old_words.OldWord.{OldWord}
use Rattle.table_words.specs.declared.old_words.OldWord.TheVariants.{First, Second}
use Rattle.frame_ranks.specs.Ranks.{rank_of}

-- ---- a kind word without its stamp
abbrev pub face : KindWord → KindWord
face k = if k.validated then k else record k { number = 0 }

face_live : (k : KindWord) → k.validated ≡ true → face k ≡ k
face_live k is = ap (λ b. if b then k else record k { number = 0 }) is

face_dead : (k : KindWord) → k.validated ≡ false → face k ≡ record k { number = 0 }
face_dead k is = ap (λ b. if b then k else record k { number = 0 }) is

face_by : {A : Type 0} (F : KindWord → A) (b : Bool) (k : KindWord) → F (record k { number = 0 }) ≡ F k → k.validated ≡ b → F (face k) ≡ F k
face_by F true k same is = ap F (face_live k is)
face_by F false k same is = ap F (face_dead k is) ∙ same

module _ (k l : KindWord) (e : face k ≡ face l) where
  same_of : {A : Type 0} (F : KindWord → A) → ((j : KindWord) → F (record j { number = 0 }) ≡ F j) → F k ≡ F l
  same_of F same = sym (face_by F k.validated k (same k) refl) ∙ ap F e ∙ face_by F l.validated l (same l) refl

  pub same_live : k.validated ≡ l.validated
  same_live = same_of (λ j. j.validated) (λ j. refl)

  pub same_work : is_work k ≡ is_work l
  same_work = same_of is_work (λ j. refl)

  pub same_rank : rank_of k ≡ rank_of l
  same_rank = same_of rank_of (λ j. refl)

  pub same_number : l.validated ≡ true → k.number ≡ l.number
  same_number live = ap (λ (j : KindWord). j.number) (sym (face_live k (same_live ∙ live)) ∙ (e ∙ face_live l live))

alike_faces : (x y : ℕ) → (x ≡ y) ⊎ IsAlikeKind (kind_fields x) (kind_fields y) → face (kind_fields x) ≡ face (kind_fields y)
alike_faces x y (inl e) = ap (λ z. face (kind_fields z)) e
alike_faces x y (inr a) =
    face_dead (kind_fields x) a.0 ∙ ap (λ (k : KindWord). record k { number = 0 }) (sym a.1) ∙ sym (face_dead (kind_fields y) (ap (λ (k : KindWord). k.validated) a.1 ∙ a.0))

-- ---- words that read the same
pub record Calm (m x : Words) : Type 0 where
  pub faces : (h : ℕ) → face (kind_at x h) ≡ face (kind_at m h)
  pub olds : (s : ℕ) (which : OldWord) → x (old_place s which) ≡ m (old_place s which)
  pub lives : (d : ℕ) → x (Life d) ≡ m (Life d)

-- but for frame g, which reads as k
pub record Turned (m x : Words) (g : ℕ) (k : KindWord) : Type 0 where
  pub here : face (kind_at x g) ≡ face k
  pub others : (h : ℕ) → h ≢ g → face (kind_at x h) ≡ face (kind_at m h)
  pub olds : (s : ℕ) (which : OldWord) → x (old_place s which) ≡ m (old_place s which)
  pub lives : (d : ℕ) → x (Life d) ≡ m (Life d)

pub calm_then : (m x y : Words) → Calm m x → Calm x y → Calm m y
calm_then m x y a b = record { faces = λ h. b.faces h ∙ a.faces h; olds = λ s which. b.olds s which ∙ a.olds s which; lives = λ d. b.lives d ∙ a.lives d }

pub turned_calm : (m x y : Words) (g : ℕ) (k : KindWord) → Turned m x g k → Calm x y → Turned m y g k
turned_calm m x y g k a b =
    record { here = b.faces g ∙ a.here; others = λ h off. b.faces h ∙ a.others h off; olds = λ s which. b.olds s which ∙ a.olds s which; lives = λ d. b.lives d ∙ a.lives d }

pub calm_turned : (m x y : Words) (g : ℕ) (k : KindWord) → Calm m x → Turned x y g k → Turned m y g k
calm_turned m x y g k a b =
    record { here = b.here; others = λ h off. b.others h off ∙ a.faces h; olds = λ s which. b.olds s which ∙ a.olds s which; lives = λ d. b.lives d ∙ a.lives d }

pub turned_twice : (m x y : Words) (g : ℕ) (k l : KindWord) → Turned m x g k → Turned x y g l → Turned m y g l
turned_twice m x y g k l a b =
    record { here = b.here; others = λ h off. b.others h off ∙ a.others h off; olds = λ s which. b.olds s which ∙ a.olds s which; lives = λ d. b.lives d ∙ a.lives d }

pub same_calm : (m x : Words) → ((q : Place) → x q ≡ m q) → Calm m x
same_calm m x same = record { faces = λ h. ap (λ w. face (kind_fields w)) (same (Kind h)); olds = λ s which. same (old_place s which); lives = λ d. same (Life d) }

-- up to stamps, the clock and the words of flushes
pub alike_calm : (m x : Words) → Alike x m → Calm m x
alike_calm m x all = record { faces = λ h. alike_faces (x (Kind h)) (m (Kind h)) (all (Kind h)); olds = λ s which. old s which; lives = λ d. all (Life d) }
  where
    old : (s : ℕ) (which : OldWord) → x (old_place s which) ≡ m (old_place s which)
    old s First = all (Vcpu s 2) (λ e. omega (arith, e)) (λ e. omega (arith, e))
    old s Second = all (Vcpu s 3) (λ e. omega (arith, e)) (λ e. omega (arith, e))

-- ---- references
pub got_calm : (f : ℕ) (m : Words) → Calm m (got f m)
got_calm f m = record { faces = λ h. refl; olds = λ s which. refl; lives = λ d. refl }

put_by : (b : Bool) (f o : ℕ) (m : Words) → Calm m (if b then set_free f o (lowered f m) else lowered f m)
put_by true f o m = record { faces = λ h. refl; olds = λ s which. refl; lives = λ d. refl }
put_by false f o m = record { faces = λ h. refl; olds = λ s which. refl; lives = λ d. refl }

pub put_calm : (f : ℕ) (m : Words) → Calm m (put f m)
put_calm f m = put_by (ref_count (m (Refs f)) == 1) f (owner_number (owner_of (m (Refs f)))) m

pub self_calm : (m : Words) → Calm m m
self_calm m = record { faces = λ h. refl; olds = λ s which. refl; lives = λ d. refl }

less_by : (b : Bool) (f : ℕ) (m : Words) → Calm m (if b then put f m else m)
less_by true f m = put_calm f m
less_by false f m = self_calm m

pub less_calm : (f : ℕ) (k : KindWord) (s : Standing) (m : Words) → Calm m (less_kept f k s m)
less_calm f k stands.Counted m = self_calm m
less_calm f k stands.Dead m = self_calm m
less_calm f k stands.Partial m = less_by k.kept f m
less_calm f k stands.Busy m = self_calm m
less_calm f k stands.Other m = self_calm m

-- ---- a kind word is stored
pub set_turned : (g : ℕ) (k : KindWord) (m : Words) → kind_fields (kind_write k) ≡ k → Turned m (set_kind g k m) g k
unfolding left_by
set_turned g k m read =
    record {
      here = ap (λ b. face (kind_fields (if b then kind_write k else m (Kind g)))) (equal_refl g) ∙ ap face read;
      others = λ h off. ap (λ b. face (kind_fields (if b then kind_write k else m (Kind h)))) (let e : (h == g) ≡ false = grind (arith, nat_tests) in e);
      olds = λ s which. refl;
      lives = λ d. refl;
    }

-- ---- single steps
abbrev pub is_quiet : Place → Bool
is_quiet Clock = true
is_quiet (Pages d) = true
is_quiet (Refs f) = true
is_quiet (Map k) = true
is_quiet (Cell f i) = true
is_quiet _ = false

other_place : (p q : Place) → is_quiet p ≡ true → is_quiet q ≡ false → q ≢ p
other_place p q loud still e = let k = sym (ap is_quiet e) ∙ still in cc

module _ (v w : PortValue) (p : Place) (a : Act) (kind : StepKind) (mark : Option Mark) (found : ℕ) where
  pub quiet_calm : Moves v w p a kind mark found → is_quiet p ≡ true → Calm (told_word v) (told_word w)
  quiet_calm m quiet =
      record {
        faces = λ h. ap (λ x. face (kind_fields x)) (told_elsewhere v w p a kind mark found m (Kind h) (other_place p (Kind h) quiet refl));
        olds = λ s which. told_elsewhere v w p a kind mark found m (old_place s which) (other_place p (old_place s which) quiet refl);
        lives = λ d. told_elsewhere v w p a kind mark found m (Life d) (other_place p (Life d) quiet refl);
      }

pub load_calm : (v w : PortValue) (p : Place) (kind : StepKind) (mark : Option Mark) (x : ℕ) → is_telling v ≡ true → Moves v w p Load kind mark x → Calm (told_word v) (told_word w)
load_calm v w p kind mark x telling m = same_calm (told_word v) (told_word w) (load_tells v w p kind mark x m telling)

other_kind : (g h : ℕ) → h ≢ g → Kind h ≢ Kind g
other_kind g h off e = off (cc)

-- a step at a kind word
pub at_kind : (v w : PortValue) (g : ℕ) (a : Act) (kind : StepKind) (mark : Option Mark) (found : ℕ) (k : KindWord) → is_telling v ≡ true → Moves v w (Kind g) a kind mark found → kind_fields (left_by a found) ≡ k → Turned (told_word v) (told_word w) g k
at_kind v w g a kind mark found k telling m read =
    record {
      here = ap (λ x. face (kind_fields x)) (told_here v w (Kind g) a kind mark found m telling) ∙ ap face read;
      others = λ h off. ap (λ x. face (kind_fields x)) (told_elsewhere v w (Kind g) a kind mark found m (Kind h) (other_kind g h off));
      olds = λ s which. told_elsewhere v w (Kind g) a kind mark found m (old_place s which) (λ e. cc);
      lives = λ d. told_elsewhere v w (Kind g) a kind mark found m (Life d) (λ e. cc);
    }

pub store_turned : (v w : PortValue) (g : ℕ) (k : KindWord) (kind : StepKind) (mark : Option Mark) (found : ℕ) → is_telling v ≡ true → kind_fields (kind_write k) ≡ k → Moves v w (Kind g) (Store (kind_write k)) kind mark found →
    Turned (told_word v) (told_word w) g k
unfolding left_by
store_turned v w g k kind mark found telling read m = at_kind v w g (Store (kind_write k)) kind mark found k telling m read
