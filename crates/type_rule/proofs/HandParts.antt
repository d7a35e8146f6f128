-- Which parts of a hand an act leaves as they are.
use Rattle.std.proofs.Common.{◌≡◌, ℕ, ◌==◌, Bool, refl}
use Rattle.xp_words.specs.declared.entry.Demand.{Demand}
use Rattle.xp_words.specs.declared.kind.KindWord.{KindWord}
use Rattle.xp_words.specs.Machine.{Machine}
use Rattle.xp_words.specs.declared.place.Place.TheVariants.{Vcpu}
use Rattle.xp_board.specs.declared.holdings.Walk.{Walk}
use Rattle.xp_board.specs.declared.holdings.Work.{Work}
use Rattle.xp_board.specs.declared.holdings.Holdings.{Holdings}
use Rattle.xp_board.specs.Settling.{demand_in, demand_out}
use Rattle.xp_board.specs.ContextSteps.{named_in, named_out}
use Rattle.xp_board.specs.FillSteps.{started, loaded, descended}
use Rattle.xp_board.specs.RunSteps.{ran_now}
use Rattle.xp_board.specs.KindSteps.{KindRow, Count, Locks, Pin, Unpin, Resume, TakeBack, Begin, after_kind_row, made_live, made_dead, as_typed}
use Rattle.xp_board.specs.After.{learned}
use Rattle.xp_words.specs.KindWords.{kind_fields}
use Rattle.xp_board.specs.Readings.{is_work, is_closing}
use Rattle.xp_board.proofs.HandParts.{Beside, beside_in, beside_out, beside_named_in, beside_named_out, beside_learned, beside_ran, beside_started, beside_descended, beside_loaded}
use Rattle.xp_board.proofs.Sums.{either}

-- the steps and what the vCPU looks at
pub record SameTwo (a b : Holdings) : Type 0 where
  pub looking : b.looking ≡ a.looking
  pub steps : b.steps ≡ a.steps

-- and the frames in work
pub record SameThree (a b : Holdings) : Type 0 where
  pub works : b.works ≡ a.works
  pub looking : b.looking ≡ a.looking
  pub steps : b.steps ≡ a.steps

pub two_of : (a b : Holdings) → SameThree a b → SameTwo a b
two_of a b k = record { looking = k.looking; steps = k.steps }

three : (a : Holdings) → SameThree a a
three a = record { works = refl; looking = refl; steps = refl }

pub three_then : (a b c : Holdings) → SameThree a b → SameThree b c → SameThree a c
three_then a b c k l = record { works = rw (l.works, k.works) refl; looking = rw (l.looking, k.looking) refl; steps = rw (l.steps, k.steps) refl }

three_of : (a b : Holdings) → Beside a b → SameThree a b
three_of a b k = record { works = k.works; looking = k.looking; steps = k.steps }

pub three_in : (sure : Bool) (d : Demand) (h : Holdings) → SameThree h (demand_in sure d h)
three_in sure d h = three_of h (demand_in sure d h) (beside_in sure d h)

pub three_out : (d : Demand) (h : Holdings) → SameThree h (demand_out d h)
three_out d h = three_of h (demand_out d h) (beside_out d h)

pub three_name_in : (k w : ℕ) (h : Holdings) → SameThree h (named_in k w h)
three_name_in k w h = three_of h (named_in k w h) (beside_named_in k w h)

pub three_name_out : (w : ℕ) (h : Holdings) → SameThree h (named_out w h)
three_name_out w h = three_of h (named_out w h) (beside_named_out w h)

pub three_own : (s v k f w : ℕ) (h : Holdings) → SameThree h (learned s (Vcpu v k) f w h)
three_own s v k f w h = three_of h (learned s (Vcpu v k) f w h) (beside_learned s v k f w h)

pub three_ran : (w : ℕ) (h : Holdings) → SameThree h (ran_now w h)
three_ran w h = three_of h (ran_now w h) (beside_ran w h)

pub three_started : (k w : ℕ) (write : Bool) (h : Holdings) → SameThree h (started k w write h)
three_started k w write h = three_of h (started k w write h) (beside_started k w write h)

pub three_descended : (n : Machine) (walk : Walk) (w : ℕ) (h : Holdings) → SameThree h (descended n walk w h)
three_descended n walk w h = three_of h (descended n walk w h) (beside_descended n walk w h)

pub three_loaded : (n : Machine) (f i w : ℕ) (walk : Walk) (h : Holdings) → SameThree h (loaded n f i w walk h)
three_loaded n f i w walk h = three_of h (loaded n f i w walk h) (beside_loaded n f i w walk h)

-- ---- the kind word
pub two_row : (row : KindRow) (f : ℕ) (k l : KindWord) (new : ℕ) (h : Holdings) → SameTwo h (after_kind_row row f k l new h)
two_row Count f k l new h = record { looking = refl; steps = refl }
two_row Locks f k l new h = record { looking = refl; steps = refl }
two_row Pin f k l new h = record { looking = refl; steps = refl }
two_row Unpin f k l new h = record { looking = refl; steps = refl }
two_row Resume f k l new h = record { looking = refl; steps = refl }
two_row TakeBack f k l new h = record { looking = refl; steps = refl }
two_row Begin f k l new h = record { looking = refl; steps = refl }

pub two_live : (f : ℕ) (l : KindWord) (h : Holdings) → SameTwo h (made_live f l h)
two_live f l h = either (SameTwo h) (l.number == 1) _ _ (record { looking = refl; steps = refl }) (record { looking = refl; steps = refl })

pub two_dead : (f : ℕ) (e : Work) (h : Holdings) → SameTwo h (made_dead f e h)
two_dead f e h = either (SameTwo h) (is_work (kind_fields e.word)) _ _ (record { looking = refl; steps = refl }) (record { looking = refl; steps = refl })

pub three_as_typed : (f : ℕ) (e : Work) (h : Holdings) → SameThree h (as_typed f e h)
three_as_typed f e h = either (SameThree h) (is_closing (kind_fields e.word)) _ _ (record { works = refl; looking = refl; steps = refl }) (three h)
