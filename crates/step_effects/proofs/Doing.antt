-- What is known of a step that is made at a place by an act.
use Rattle.std.proofs.Common.{◌≡◌, ◌≢◌, ℕ, Option, Some, IsTrue, refl, sym, ◌∙◌, inl, inr}
use Rattle.xp_words.specs.Machine.{Machine}
use Rattle.xp_words.specs.declared.place.Place.{Place}
use Rattle.xp_words.specs.Places.{is_place, sizes_of}
use Rattle.xp_board.specs.declared.step.Act.{Act}
use Rattle.xp_board.specs.declared.step.Act.TheVariants.{Load, Cas, Store}
use Rattle.xp_board.specs.declared.step.Mark.{Mark}
use Rattle.xp_board.specs.declared.step.Step.{Step}
use Rattle.xp_board.specs.declared.step.StepKind.{StepKind}
use Rattle.xp_board.specs.declared.holdings.Holdings.{Holdings}
use Rattle.xp_board.specs.Acts.{left_by}
use Rattle.xp_board.specs.After.{noted, learned, after_act}
use Rattle.xp_board.specs.Legal.{LegalAs, WritesSpelling, needs_running}
use Rattle.xp_board.specs.Runs.{place_of}
use Rattle.xp_board.proofs.PlaceTests.{same_or_other}
use Rattle.step_effects.proofs.ActEffects.{Wrote}
use Rattle.xp_board.proofs.Sums.{when_found, when_lost}

-- no word changes where the word at p does not
pub no_words : (p : Place) (m m2 : Place → ℕ) → m2 p ≡ m p → ((q : Place) → q ≢ p → m2 q ≡ m q) → (q : Place) → m2 q ≡ m q
no_words p m m2 here elsewhere q = elim (same_or_other q p) [ inl e ↦ rw e here | inr k ↦ elsewhere q k ]

module _ (n : Machine) (s : ℕ) (x : Step) (m m2 : Place → ℕ) (b c : Holdings) (mark : Option Mark) where
  -- what is known of a step at p by act a, of that kind
  pub record Doing (p : Place) (a : Act) (kind : StepKind) : Type 0 where
    pub place : place_of n x ≡ p
    pub act_is : x.act ≡ a
    pub kind_is : x.kind ≡ kind
    pub mark_is : x.mark ≡ mark
    pub real : IsTrue (is_place (sizes_of n) p)
    pub running : IsTrue (needs_running kind) → b.run ≡ Some 0
    pub spelling : WritesSpelling n p a
    pub legal : LegalAs n s b p a mark kind
    pub here : m2 p ≡ left_by a (m p)
    pub elsewhere : (q : Place) → q ≢ p → m2 q ≡ m q
    pub hand : c ≡ noted x (m p) (learned s p (m p) (left_by a (m p)) (after_act n s p a kind mark (m p) b))

  pub wrote_by : (p : Place) (a : Act) (kind : StepKind) → Doing p a kind → Wrote n x p kind m m2 b
  wrote_by p a sort d =
      record {
        place = d.place;
        real = d.real;
        kind_is = d.kind_is;
        running = d.running;
        spelling = rw d.act_is d.spelling;
        left = rw d.act_is (sym d.here);
        others = d.elsewhere;
      }

  -- a load
  pub load_words : (p : Place) (kind : StepKind) → Doing p Load kind → (q : Place) → m2 q ≡ m q
  unfolding left_by
  load_words p sort d = no_words p m m2 d.here d.elsewhere

  pub load_left : (p : Place) (kind : StepKind) → Doing p Load kind → left_by x.act (m p) ≡ m p
  unfolding left_by
  load_left p sort d = rw d.act_is refl

  -- an exchange that found another word
  kept_by : (p : Place) (e w : ℕ) → m p ≢ e → left_by (Cas e w) (m p) ≡ m p
  unfolding left_by
  kept_by p e w off = when_lost (m p) e w (m p) off

  pub lost_words : (p : Place) (e w : ℕ) (kind : StepKind) → Doing p (Cas e w) kind → m p ≢ e → (q : Place) → m2 q ≡ m q
  lost_words p e w sort d off = no_words p m m2 (d.here ∙ kept_by p e w off) d.elsewhere

  pub lost_left : (p : Place) (e w : ℕ) (kind : StepKind) → Doing p (Cas e w) kind → m p ≢ e → left_by x.act (m p) ≡ m p
  lost_left p e w sort d off = rw d.act_is (kept_by p e w off)

  -- an exchange that found the word that it expected
  pub now_by : (p : Place) (e w : ℕ) (kind : StepKind) → Doing p (Cas e w) kind → m p ≡ e → m2 p ≡ w
  unfolding left_by
  now_by p e w sort d at = d.here ∙ when_found (m p) e w (m p) at

  pub store_now : (p : Place) (w : ℕ) (kind : StepKind) → Doing p (Store w) kind → m2 p ≡ w
  unfolding left_by
  store_now p w sort d = d.here
