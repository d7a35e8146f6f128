-- What the calls on frames leave of the words beside them.
use Rattle.std.proofs.Common.{◌≡◌, ℕ, ◌==◌, if◌then◌else◌, Bool, true, false, refl, ◌∙◌}
use Rattle.xp_words.specs.KindWords.{kind_fields}
use Rattle.xp_words.specs.declared.kind.KindWord.{KindWord}
use Rattle.xp_words.specs.declared.kind.PageType.{PageType}
use Rattle.xp_words.specs.declared.place.Place.{Place}
use Rattle.xp_words.specs.declared.place.Place.TheVariants.{Cell, Kind, Life, M2p, Priv, Refs, Vcpu}
use Rattle.xp_board.specs.declared.step.Act.{Act}
use Rattle.xp_board.specs.Readings.{owner_of, ref_count}
use Rattle.xp_board.specs.RefSteps.{owner_number}
use Rattle.xp_board.specs.Told.{PortValue, told_word}
use Rattle.step_maker.specs.Plain.{Leaves, Words, change}
use Rattle.step_maker.specs.Twins.{Alike}
use Rattle.frame_words.specs.Plain.{got, lowered, put, set_free}
use Rattle.frame_types.specs.Plain.{less_kept, set_kind, taken, taken_by}
use Rattle.frame_types.specs.Standing.{standing_of}
use Rattle.frame_types.specs.declared.standing.Standing.{Standing}
use Rattle.frame_types.specs.declared.standing.Standing.TheVariants as stands
use Rattle.frame_types.specs.declared.taking.Taken.{Taken}
use Rattle.frame_types.specs.declared.taking.Taken.TheVariants.{Counted, InWork, Waiting}
use Rattle.solo_pages.specs.Shown.{SameBeside}

-- ---- together
pub beside_self : (m : Words) → SameBeside m m
beside_self m = record { maps = λ f. refl; own = λ s k a b. refl; privileges = λ d. refl; lives = λ d. refl }

pub beside_trans : (l m n : Words) → SameBeside l m → SameBeside m n → SameBeside l n
beside_trans l m n a b =
    record {
      maps = λ f. b.maps f ∙ a.maps f;
      own = λ s k c d. b.own s k c d ∙ a.own s k c d;
      privileges = λ d. b.privileges d ∙ a.privileges d;
      lives = λ d. b.lives d ∙ a.lives d;
    }

pub beside_alike : (m w : Words) → Alike w m → SameBeside m w
beside_alike m w a = record { maps = λ f. a (M2p f); own = λ s k b c. a (Vcpu s k) b c; privileges = λ d. a (Priv d); lives = λ d. a (Life d) }

pub beside_same : (m w : Words) → ((q : Place) → w q ≡ m q) → SameBeside m w
beside_same m w a = record { maps = λ f. a (M2p f); own = λ s k b c. a (Vcpu s k); privileges = λ d. a (Priv d); lives = λ d. a (Life d) }

pub beside_leaves : (m n : Words) (w : PortValue) → Leaves w n → SameBeside m n → SameBeside m (told_word w)
beside_leaves m n w leaves a = beside_trans m n (told_word w) a (beside_same n (told_word w) leaves)

-- ---- one word of a frame
pub beside_refs : (a : Act) (f : ℕ) (m : Words) → SameBeside m (change a (Refs f) m)
beside_refs a f m = record { maps = λ g. refl; own = λ s k b c. refl; privileges = λ d. refl; lives = λ d. refl }

pub beside_kind : (a : Act) (f : ℕ) (m : Words) → SameBeside m (change a (Kind f) m)
beside_kind a f m = record { maps = λ g. refl; own = λ s k b c. refl; privileges = λ d. refl; lives = λ d. refl }

pub beside_cell : (a : Act) (f i : ℕ) (m : Words) → SameBeside m (change a (Cell f i) m)
beside_cell a f i m = record { maps = λ g. refl; own = λ s k b c. refl; privileges = λ d. refl; lives = λ d. refl }

-- ---- references
pub beside_got : (f : ℕ) (m : Words) → SameBeside m (got f m)
beside_got f m = beside_refs _ f m

put_by : (b : Bool) (f owner : ℕ) (m : Words) → SameBeside m (if b then set_free f owner (lowered f m) else lowered f m)
put_by true f owner m = record { maps = λ g. refl; own = λ s k b c. refl; privileges = λ d. refl; lives = λ d. refl }
put_by false f owner m = beside_refs _ f m

pub beside_put : (f : ℕ) (m : Words) → SameBeside m (put f m)
beside_put f m = put_by (ref_count (m (Refs f)) == 1) f (owner_number (owner_of (m (Refs f)))) m

-- ---- types
kept_by : (b : Bool) (f : ℕ) (m : Words) → SameBeside m (if b then put f m else m)
kept_by true f m = beside_put f m
kept_by false f m = beside_self m

less : (f : ℕ) (k : KindWord) (s : Standing) (m : Words) → SameBeside m (less_kept f k s m)
less f k stands.Partial m = kept_by k.kept f m
less f k stands.Counted m = beside_self m
less f k stands.Dead m = beside_self m
less f k stands.Busy m = beside_self m
less f k stands.Other m = beside_self m

stored : (f : ℕ) (new k : KindWord) (s : Standing) (m : Words) → SameBeside m (set_kind f new (less_kept f k s m))
stored f new k s m = beside_trans m (less_kept f k s m) (set_kind f new (less_kept f k s m)) (less f k s m) (beside_kind _ f (less_kept f k s m))

taken_so : (f : ℕ) (want : PageType) (k : KindWord) (s : Standing) (t : Taken) (m : Words) → SameBeside m (taken_by f want k s t m)
taken_so f want k stands.Counted t m = beside_kind _ f m
taken_so f want k stands.Dead Counted m = stored f _ k stands.Dead m
taken_so f want k stands.Dead (InWork progress own) m = stored f _ k stands.Dead m
taken_so f want k stands.Dead (Waiting own stamp stop) m = stored f _ k stands.Dead m
taken_so f want k stands.Partial Counted m = stored f _ k stands.Partial m
taken_so f want k stands.Partial (InWork progress own) m = stored f _ k stands.Partial m
taken_so f want k stands.Partial (Waiting own stamp stop) m = stored f _ k stands.Partial m
taken_so f want k stands.Busy Counted m = stored f _ k stands.Busy m
taken_so f want k stands.Busy (InWork progress own) m = stored f _ k stands.Busy m
taken_so f want k stands.Busy (Waiting own stamp stop) m = stored f _ k stands.Busy m
taken_so f want k stands.Other Counted m = stored f _ k stands.Other m
taken_so f want k stands.Other (InWork progress own) m = stored f _ k stands.Other m
taken_so f want k stands.Other (Waiting own stamp stop) m = stored f _ k stands.Other m

pub beside_taken : (f : ℕ) (want : PageType) (t : Taken) (m : Words) → SameBeside m (taken f want t m)
beside_taken f want t m = taken_so f want (kind_fields (m (Kind f))) (standing_of (kind_fields (m (Kind f))) want) t m
