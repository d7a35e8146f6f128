-- What a board that tells all words tells after steps of one of its ports.
use Rattle.std.proofs.Common.{◌≡◌, ◌≢◌, ℕ, ◌<◌, List, [], ◌∷◌, ◌++◌, length, Some, refl, sym, ap, ◌∙◌, subst, slice_set, length-set, get_or-set_same}
use Rattle.std.proofs.Math.ListN.{set}
use Rattle.std.proofs.lemmas.List.{get_or-set_other}
use Rattle.xp_words.specs.Machine.{Machine}
use Rattle.xp_words.specs.Places.{sizes_of}
use Rattle.xp_board.specs.declared.step.Step.{Step}
use Rattle.xp_board.specs.declared.holdings.Made.{Made}
use Rattle.xp_board.specs.declared.holdings.Holdings.{Holdings}
use Rattle.xp_board.specs.Acts.{left_by}
use Rattle.xp_board.specs.After.{after}
use Rattle.xp_board.specs.Hands.{empty}
use Rattle.xp_board.specs.Legal.{Legal}
use Rattle.xp_board.specs.Runs as runs
use Rattle.xp_board.specs.Runs.{place_of, word_at}
use Rattle.xp_board.specs.Sound.{hand_of}
use Rattle.xp_board.specs.Told.{Post, PortValue, Story, IsTold, tells, stepped, Went}
use Rattle.xp_board.proofs.Going.{went_post}
use Rattle.shared_board.specs.Board.{state_of}
use Rattle.xp_machine.specs.Pieces.{Piece, log_by}

-- ---- one step
record One (n : Machine) (s : ℕ) (a : Story) (w : PortValue) (x : Made) : Type 0 where
  b : Story
  told : w.told ≡ Some b
  holdings : w.holdings ≡ hand_of b.hands s
  moves : runs.StepsTo n (state_of a) s x.step (state_of b)
  found : x.found ≡ word_at n (state_of a) (place_of n x.step)
  opening : b.opening ≡ a.opening
  log : b.log ≡ (s, x.step) ∷ a.log
  hands : length b.hands ≡ length a.hands
  others : (t : ℕ) → t ≢ s → hand_of b.hands t ≡ hand_of a.hands t

one_step : (u w : PortValue) (x : Made) (c : Story) → u.told ≡ Some c → u.holdings ≡ hand_of c.hands u.post.vcpu → u.post.vcpu < length c.hands →
    u.post.vcpu < (sizes_of u.post.machine).vcpus → Legal u.post.machine u.post.vcpu u.holdings x.step → IsTold u.post.machine u.told (place_of u.post.machine x.step) x.found →
    w ≡ stepped u x.step x.found → One u.post.machine u.post.vcpu c w x
one_step u w x c told hand there real legal found to =
    let n = u.post.machine in
    let s = u.post.vcpu in
    let h : Holdings = after n s u.holdings x.step x.found in
    let is : IsTold n (Some c) (place_of n x.step) x.found = subst (λ o. IsTold n o (place_of n x.step) x.found) told found in
    let legal' : Legal n s (hand_of c.hands s) x.step = subst (λ y. Legal n s y x.step) hand legal in
    record {
      b = record { opening = c.opening; log = (s, x.step) ∷ c.log; words = slice_set c.words x.step.place (left_by x.step.act x.found); hands = slice_set c.hands s h };
      told = ap (λ (y : PortValue). y.told) to ∙ ap (λ o. tells s x.step x.found h o) told;
      holdings = ap (λ (y : PortValue). y.holdings) to ∙ sym (get_or-set_same c.hands s h empty there);
      moves = record {
        vcpu = real;
        legal = legal';
        next_is = λ k. record {
          words = slice_set c.words x.step.place (left_by x.step.act (sym is.1 k));
          hands = slice_set c.hands s (after n s (hand k) x.step (sym is.1 k));
        };
      };
      found = sym is.1;
      opening = refl;
      log = refl;
      hands = length-set c.hands s h;
      others = λ t off. get_or-set_other c.hands s t h empty off;
    }

-- ---- all of them
pub record Walked (n : Machine) (s : ℕ) (a : Story) (w : PortValue) (made : List Made) : Type 0 where
  pub b : Story
  pub told : w.told ≡ Some b
  pub holdings : w.holdings ≡ hand_of b.hands s
  pub piece : Piece n s (state_of a) made (state_of b)
  pub opening : b.opening ≡ a.opening
  pub log : b.log ≡ log_by s made ++ a.log
  pub hands : length b.hands ≡ length a.hands
  pub others : (t : ℕ) → t ≢ s → hand_of b.hands t ≡ hand_of a.hands t

pub walked : (v w : PortValue) (a : Story) (made : List Made) → v.told ≡ Some a → v.holdings ≡ hand_of a.hands v.post.vcpu → v.post.vcpu < length a.hands →
    v.post.vcpu < (sizes_of v.post.machine).vcpus → Went v made w → Walked v.post.machine v.post.vcpu a w made
walked v w a [] told hand there real went =
    record {
      b = a;
      told = ap (λ (y : PortValue). y.told) went ∙ told;
      holdings = ap (λ (y : PortValue). y.holdings) went ∙ hand;
      piece = refl;
      opening = refl;
      log = refl;
      hands = refl;
      others = λ t off. refl;
    }
walked v w a (x ∷ xs) told hand there real went =
    let u : PortValue = went.0 in
    let before = walked v u a xs told hand there real went.1 in
    let post = went_post v u xs went.1 in
    let one : One v.post.machine v.post.vcpu before.b w x =
    subst (λ (q : Post). One q.machine q.vcpu before.b w x) post
    (one_step u w x before.b before.told (before.holdings ∙ ap (λ (q : Post). hand_of before.b.hands q.vcpu) (sym post))
    (subst (λ (q : Post). q.vcpu < length before.b.hands) (sym post) (subst (λ k. v.post.vcpu < k) (sym before.hands) there))
    (subst (λ (q : Post). q.vcpu < (sizes_of q.machine).vcpus) (sym post) real) went.2 went.3 went.4) in
    record {
      b = one.b;
      told = one.told;
      holdings = one.holdings;
      piece = (state_of before.b, before.piece, one.moves, one.found);
      opening = one.opening ∙ before.opening;
      log = one.log ∙ ap (λ (es : List (ℕ × Step)). (v.post.vcpu, x.step) ∷ es) before.log;
      hands = one.hands ∙ before.hands;
      others = λ t off. one.others t off ∙ before.others t off;
    }
