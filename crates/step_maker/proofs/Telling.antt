-- What a board that tells all words tells after one step.
use Rattle.std.proofs.Common.{◌≡◌, ◌≢◌, ℕ, if◌then◌else◌, Bool, true, false, List, [], ◌∷◌, is_some, Option, Some, None, IsTrue, refl, sym, ap, ◌∙◌, subst}
use Rattle.std.proofs.Math.ListN.{set}
use Rattle.xp_words.specs.Machine.{Machine}
use Rattle.xp_words.specs.declared.place.Place.{Place}
use Rattle.xp_words.specs.Places.{is_place, number, sizes_of, memory, place_at}
use Rattle.xp_words.proofs.PlaceLaws.{memory_same, memory_other, place_back}
use Rattle.xp_board.specs.declared.step.Act.{Act}
use Rattle.xp_board.specs.declared.step.Act.TheVariants.{Load}
use Rattle.xp_board.specs.declared.step.Mark.{Mark}
use Rattle.xp_board.specs.declared.step.Step.{Step}
use Rattle.xp_board.specs.declared.step.StepKind.{StepKind}
use Rattle.xp_board.specs.declared.holdings.Holdings.{Holdings}
use Rattle.xp_board.specs.Acts.{left_by}
use Rattle.xp_board.specs.After.{noted, after_move}
use Rattle.xp_board.specs.Runs.{place_of}
use Rattle.xp_board.specs.Steps.{is_same}
use Rattle.xp_board.specs.Told.{PortValue, Story, IsTold, Went, tells, is_telling, word_in, told_word}
use Rattle.xp_board.proofs.Going.{went_step, went_telling}
use Rattle.xp_board.proofs.Numbers.{place_number}
use Rattle.xp_board.proofs.PlaceTests.{same_place, is_same-refl}
use Rattle.step_maker.specs.Moves.{Moment, Moves, Ran, Came, step_at}
use Rattle.step_maker.specs.Plain.{Words, change, Leaves}
use Rattle.step_maker.proofs.Moving.{legal_there}
use Rattle.step_maker.proofs.Noting.{made_now}

word_found : (n : Machine) (o : Option Story) (p : Place) (found : ℕ) → IsTold n o p found → is_some o ≡ true → word_in n o p ≡ found
word_found n None p found told is = absurd (cc)
word_found n (Some a) p found told is = told.1

word_here : (n : Machine) (s found : ℕ) (x : Step) (h : Holdings) (o : Option Story) → IsTrue (is_place (sizes_of n) (place_of n x)) → IsTold n o (place_of n x) found → is_some o ≡ true →
    word_in n (tells s x found h o) (place_of n x) ≡ left_by x.act found
word_here n s found x h None real told is = absurd (cc)
word_here n s found x h (Some a) real told is =
    ap (λ j. memory (sizes_of n) (set a.words j (left_by x.act found)) (place_of n x)) (sym (place_number (sizes_of n) x.place real))
    ∙ memory_same (sizes_of n) a.words (place_of n x) (left_by x.act found) real told.0

word_elsewhere : (n : Machine) (s found : ℕ) (x : Step) (h : Holdings) (o : Option Story) (q : Place) → IsTrue (is_place (sizes_of n) (place_of n x)) → q ≢ place_of n x →
    word_in n (tells s x found h o) q ≡ word_in n o q
word_elsewhere n s found x h None q real off = refl
word_elsewhere n s found x h (Some a) q real off =
    ap (λ j. memory (sizes_of n) (set a.words j (left_by x.act found)) q) (sym (place_number (sizes_of n) x.place real))
    ∙ memory_other (sizes_of n) a.words (place_of n x) q (left_by x.act found) real off

pub by_test : {A : Type 0} (b : Bool) (x y z : A) → (b ≡ true → z ≡ x) → (b ≡ false → z ≡ y) → z ≡ (if b then x else y)
by_test true x y z f g = f refl
by_test false x y z f g = g refl

is_itself : (p q : Place) → q ≡ p → is_same q p ≡ false → ⊥
is_itself p q e off = let k : is_same p p ≡ false = subst (λ r. is_same r p ≡ false) e off in let y = is_same-refl p in absurd cc

module _ (v w : PortValue) (p : Place) (a : Act) (k : StepKind) (mark : Option Mark) (found : ℕ) (m : Moves v w p a k mark found) where
  back : place_at (sizes_of v.post.machine) (number (sizes_of v.post.machine) p) ≡ p
  back = place_back (sizes_of v.post.machine) p m.may.place

  -- the step as one of the list of all steps
  pub moves_went : Went v (made_now (step_at v.post.machine p a k mark) found ∷ []) w
  moves_went =
      went_step v w (step_at v.post.machine p a k mark) found (legal_there v p a k mark (number (sizes_of v.post.machine) p) m.may refl) (subst (λ q. IsTold v.post.machine v.told q found) (sym back) m.told)
      (m.to
      ∙ ap (λ (q : Place). record {
        post = v.post;
        holdings = noted (step_at v.post.machine p a k mark) found (after_move v.post.machine v.post.vcpu v.holdings q a k mark found);
        told = tells v.post.vcpu (step_at v.post.machine p a k mark) found (noted (step_at v.post.machine p a k mark) found (after_move v.post.machine v.post.vcpu v.holdings q a k mark found)) v.told;
      }) (sym back))

  pub moves_telling : is_telling w ≡ is_telling v
  moves_telling = went_telling v w (made_now (step_at v.post.machine p a k mark) found ∷ []) moves_went

  pub told_there : is_telling v ≡ true → told_word v p ≡ found
  told_there is = word_found v.post.machine v.told p found m.told is

  pub told_here : is_telling v ≡ true → told_word w p ≡ left_by a found
  told_here is =
      let n = v.post.machine in
      subst (λ q. told_word w q ≡ left_by a found) back
      (ap (λ (y : PortValue). told_word y (place_of n (step_at n p a k mark))) m.to
      ∙ word_here n v.post.vcpu found (step_at n p a k mark) _ v.told (subst (λ q. IsTrue (is_place (sizes_of n) q)) (sym back) m.may.place) (subst (λ q. IsTold n v.told q found) (sym back) m.told) is)

  pub told_elsewhere : (q : Place) → q ≢ p → told_word w q ≡ told_word v q
  told_elsewhere q off =
      let n = v.post.machine in
      ap (λ (y : PortValue). told_word y q) m.to
      ∙ word_elsewhere n v.post.vcpu found (step_at n p a k mark) _ v.told q (subst (λ r. IsTrue (is_place (sizes_of n) r)) (sym back) m.may.place) (λ e. off (e ∙ back))

  -- all words after it
  pub leaves : is_telling v ≡ true → Leaves w (change a p (told_word v))
  leaves is q =
      by_test (is_same q p) (left_by a (told_word v p)) (told_word v q) (told_word w q)
      (λ on. ap (told_word w) (same_place q p on) ∙ told_here is ∙ ap (left_by a) (sym (told_there is)))
      (λ off. told_elsewhere q (λ e. is_itself p q e off))

-- words that are the same everywhere change in the same way
pub changed : (a : Act) (p : Place) (m n : Words) → ((q : Place) → m q ≡ n q) → (q : Place) → change a p m q ≡ change a p n q
changed a p m n same q = ap (λ y. if is_same q p then left_by a y else m q) (same p) ∙ ap (λ y. if is_same q p then left_by a (n p) else y) (same q)

pub leaves_then : (u w : PortValue) (a : Act) (p : Place) (m : Words) → Leaves u m → Leaves w (change a p (told_word u)) → Leaves w (change a p m)
leaves_then u w a p m before after q = after q ∙ changed a p (told_word u) m before q

-- a load leaves all as it is
pub load_leaves : (p : Place) (m : Words) (q : Place) → change Load p m q ≡ m q
unfolding left_by
load_leaves p m q = sym (by_test (is_same q p) (m p) (m q) (m q) (λ on. ap m (same_place q p on)) (λ off. refl))

pub load_tells : (v u : PortValue) (p : Place) (k : StepKind) (mark : Option Mark) (x : ℕ) → Moves v u p Load k mark x → is_telling v ≡ true → Leaves u (told_word v)
load_tells v u p k mark x m telling q = leaves v u p Load k mark x m telling q ∙ load_leaves p (told_word v) q

-- steps of the call change not whether all words are told
pub ran_telling : (v w : PortValue) (ms : List Moment) → Ran v ms w → is_telling w ≡ is_telling v
ran_telling v w [] a = ap (λ (y : PortValue). is_telling y) a
ran_telling v w (m ∷ ms) a = moves_telling a.0 w m.place m.act m.kind m.mark m.found a.2.moves ∙ ran_telling v a.0 ms a.1

pub came_telling : (v w : PortValue) → Came v w → is_telling w ≡ is_telling v
unfolding Came
came_telling v w a = ran_telling v w a.0 a.1
