-- What stands at a place after a run: the word that stood there before, or one that a step of the run left.
use Rattle.std.proofs.Common.{◌≡◌, ◌≢◌, ℕ, ◌<◌, List, [], ◌∷◌, length, refl, sym, ap, ◌∙◌, subst, inl, inr, ◌⊎◌}
use Rattle.std.proofs.Math.ListN.{set}
use Rattle.std.proofs.lemmas.Bool.{cases_eq}
use Rattle.xp_words.specs.Machine.{Machine}
use Rattle.xp_words.specs.Places.{memory, number, size, sizes_of}
use Rattle.xp_words.specs.declared.place.Place.{Place}
use Rattle.xp_words.specs.declared.place.Place.TheVariants.{Cell, Refs}
use Rattle.xp_words.proofs.PlaceLaws.{memory_same, memory_other}
use Rattle.xp_board.specs.Acts.{left_by}
use Rattle.xp_board.specs.Runs.{Run, State, StepsTo, place_of, word_at}
use Rattle.xp_board.specs.Sound.{SoundState, hand_of}
use Rattle.xp_board.specs.declared.step.Step.{Step}
use Rattle.xp_board.proofs.Numbers.{place_number}
use Rattle.xp_board.proofs.PlaceTests.{same_or_other}
use Rattle.clean_rule.specs.Clean.{GivesFrame, WroteIn}
use Rattle.clean_rule.proofs.Giving.{given_clean}

module _ (n : Machine) (c b : State) (t : ℕ) (y : Step) (whole : length c.words ≡ size (sizes_of n)) (move : StepsTo n c t y b) where
  left : ℕ
  left = left_by y.act (word_at n c (place_of n y))

  stored : (p : Place) → word_at n b p ≡ memory (sizes_of n) (set c.words (number (sizes_of n) (place_of n y)) left) p
  unfolding left
  stored p =
      ap (λ (a : State). memory (sizes_of n) a.words p) move.next_is
      ∙ ap (λ i. memory (sizes_of n) (set c.words i (left_by y.act (word_at n c (place_of n y)))) p) (sym (place_number (sizes_of n) y.place move.legal.place))

  pub step_elsewhere : (p : Place) → p ≢ place_of n y → word_at n b p ≡ word_at n c p
  step_elsewhere p off = stored p ∙ memory_other (sizes_of n) c.words (place_of n y) p left move.legal.place off

  pub step_here : (p : Place) → p ≡ place_of n y → word_at n b p ≡ left_by y.act (word_at n c p)
  unfolding left
  step_here p at =
      subst (λ q. word_at n b q ≡ left_by y.act (word_at n c q)) (sym at)
      (stored (place_of n y) ∙ memory_same (sizes_of n) c.words (place_of n y) left move.legal.place whole)

abbrev pub RunsSound : Type 0
RunsSound = (n : Machine) (a b : State) (log : List (ℕ × Step)) → Run n a log b → SoundState n a.words a.hands → SoundState n b.words b.hands

further : (n : Machine) (a : State) (e : ℕ × Step) (es : List (ℕ × Step)) (p : Place) (w x : ℕ) → x ≡ w → WroteIn n a es p w → WroteIn n a (e ∷ es) p x
further n a e es p w x is o =
    record {
      early = o.early;
      late = e ∷ o.late;
      before = o.before;
      behind = o.behind;
      vcpu = o.vcpu;
      step = o.step;
      one = ap (λ ys. e ∷ ys) o.one;
      run = o.run;
      steps = o.steps;
      place = o.place;
      other = λ at. o.other (at ∙ is);
      left = o.left ∙ sym is;
    }

abbrev Keeps : (n : Machine) (a b : State) (log : List (ℕ × Step)) (p : Place) → Type 0
Keeps n a b log p = (word_at n b p ≡ word_at n a p) ⊎ WroteIn n a log p (word_at n b p)

kept_on : (n : Machine) (a b c : State) (e : ℕ × Step) (es : List (ℕ × Step)) (p : Place) → word_at n b p ≡ word_at n c p → Keeps n a c es p → Keeps n a b (e ∷ es) p
kept_on n a b c e es p same (inl kept) = inl (same ∙ kept)
kept_on n a b c e es p same (inr wrote) = inr (further n a e es p (word_at n c p) (word_at n b p) same wrote)

pub run_word : RunsSound → (n : Machine) (a b : State) (log : List (ℕ × Step)) (p : Place) → SoundState n a.words a.hands → Run n a log b → Keeps n a b log p
run_word law n a b [] p sound run = inl (ap (λ (c : State). word_at n c p) run)
run_word law n a b (e ∷ es) p sound run =
    let c = run.0 in
    let whole = (law n a c es run.1 sound).all_words in
    let first = run_word law n a c es p sound run.1 in
    elim (same_or_other p (place_of n e.1)) [
      | inl at ↦
          elim (cases_eq (word_at n c p) (word_at n b p)) [
            | inl same ↦ kept_on n a b c e es p (sym same) first
            | inr other ↦
                inr (record {
                  early = es;
                  late = [];
                  before = c;
                  behind = b;
                  vcpu = e.0;
                  step = e.1;
                  one = refl;
                  run = run.1;
                  steps = run.2;
                  place = sym at;
                  other = other;
                  left = sym (step_here n c b e.0 e.1 whole run.2 p at);
                })
          ]
      | inr off ↦ kept_on n a b c e es p (step_elsewhere n c b e.0 e.1 whole run.2 p off) first
    ]

pub holds_since : RunsSound → (n : Machine) (a c e b : State) (before since : List (ℕ × Step)) (s f d i : ℕ) (x : Step) → SoundState n a.words a.hands → Run n a before c → StepsTo n c s x e → GivesFrame n x f d → Run n e since b → i < 512 →
    (word_at n b (Cell f i) ≡ 0) ⊎ WroteIn n e since (Cell f i) (word_at n b (Cell f i))
holds_since law n a c e b before since s f d i x sound first move gives later low =
    let sound_c = law n a c before first sound in
    let sound_e = law n a e ((s, x) ∷ before) (c, first, move) sound in
    let zero : word_at n c (Cell f i) ≡ 0 = (given_clean n (memory (sizes_of n) c.words) (hand_of c.hands) s f d x sound_c.sound move.vcpu move.legal gives).cells i low in
    let kept : word_at n e (Cell f i) ≡ word_at n c (Cell f i) = step_elsewhere n c e s x sound_c.all_words move (Cell f i) (λ at. (let bad : Cell f i ≡ Refs f = at ∙ gives.place in cc)) in
    elim (run_word law n e b since (Cell f i) sound_e later) [
      | inl same ↦ inl (same ∙ kept ∙ zero)
      | inr wrote ↦ inr wrote
    ]
