-- Frames that are listed: the lines of a log, and what the destroying vCPU knows by them.
use Rattle.std.proofs.Common.{◌≡◌, ◌≢◌, ◌⊎◌, ℕ, ◌+◌, ◌<◌, ◌≤◌, ◌==◌, not, if◌then◌else◌, Bool, true, false, List, [], ◌∷◌, ◌++◌, length, None, Some, Option, Ok, Err, IsTrue, refl, sym, ap, ◌∙◌, subst, inl, inr, arith, append_assoc, append-nil, length-append}
use Rattle.std.proofs.lemmas.Bool.{cases_eq}
use Rattle.std.proofs.lemmas.List.Elements.{Contains-append_left, Contains-push}
use Rattle.std.proofs.lemmas.List.Sums.{sum_by-append, sum_by-cons}
use Rattle.xp_words.specs.Places.{sizes_of}
use Rattle.xp_words.specs.RefWords.{IsRef, ref_read}
use Rattle.xp_words.specs.declared.place.Place.TheVariants.{Refs}
use Rattle.xp_words.specs.declared.refs.RefWord.{RefWord}
use Rattle.xp_words.specs.declared.refs.RefWord.TheVariants.{Owned}
use Rattle.xp_words.specs.declared.reply.LogLine.{LogLine}
use Rattle.xp_words.specs.declared.reply.LogLine.TheVariants as lines
use Rattle.xp_words.specs.declared.reply.Pause.TheVariants.{Busy}
use Rattle.xp_words.specs.declared.reply.Stop.{Stop}
use Rattle.xp_words.specs.declared.reply.Stop.TheVariants.{Paused}
use Rattle.xp_board.specs.Acts.{left_by}
use Rattle.xp_board.specs.Readings.{count_in, is_dying, is_dying_in, is_owned_by, owner_in, owner_of, ref_count}
use Rattle.xp_board.specs.Steps.{some_since}
use Rattle.xp_board.specs.Told.{Post, PortValue}
use Rattle.xp_board.specs.declared.step.Act.TheVariants.{Load}
use Rattle.xp_board.specs.declared.step.StepKind.TheVariants as kinds
use Rattle.xp_board.proofs.Sums.{when_eq}
use Rattle.step_maker.specs.Answers.{Stops}
use Rattle.step_maker.specs.Moves.{Came, Moves}
use Rattle.step_maker.specs.Pauses as pauses
use Rattle.step_maker.proofs.Coming.{came_post, moves_came}
use Rattle.step_maker.proofs.Noting.{moves_since}
use Rattle.dead_domains.specs.Listing.{IsListed}
use Rattle.domain_destroy.specs.Asking.{ServesDestroy, StopsDestroyer}
use Rattle.domain_destroy.specs.Coming.{FoundListed, HasCome, HasComeTo, left_by_line, lefts_in}
use Rattle.domain_destroy.specs.Course.{Advances, GoesOn, LeftFrame, ListsFrame, left_lines}
use Rattle.domain_destroy.specs.Destroying.{ListsOn, count_of}
use Rattle.domain_destroy.specs.declared.place.DestroyAt.{DestroyAt}
use Rattle.domain_destroy.specs.declared.place.DestroyAt.TheVariants.{Lists}
use Rattle.domain_destroy.proofs.Parts.{found_there}
use Rattle.domain_destroy.proofs.Staying.{found_listed_stays}
use Rattle.domain_destroy.proofs.NoUse.{not_owned}

-- ---- lines
pub lines_then : (op : ℕ) (xs ys : List LeftFrame) → left_lines op (xs ++ ys) ≡ left_lines op xs ++ left_lines op ys
lines_then op [] ys = refl
lines_then op (x ∷ xs) ys = ap (λ (ls : List LogLine). lines.Left op x.frame x.word ∷ ls) (lines_then op xs ys)

line_counts : (op f w : ℕ) → left_by_line op (lines.Left op f w) ≡ 1
line_counts op f w = rw (when_eq op op refl) refl

lines_count : (op : ℕ) (xs : List LeftFrame) → lefts_in op (left_lines op xs) ≡ length xs
lines_count op [] = refl
lines_count op (x ∷ xs) =
    let one = line_counts op x.frame x.word in
    let rest = lines_count op xs in
    sum_by-cons (left_by_line op) (lines.Left op x.frame x.word) (left_lines op xs) ∙ omega (arith, one, rest)

pub lefts_then : (op : ℕ) (log : List LogLine) (xs : List LeftFrame) → lefts_in op (log ++ left_lines op xs) ≡ lefts_in op log + length xs
lefts_then op log xs = sum_by-append (left_by_line op) log (left_lines op xs) ∙ ap (λ k. lefts_in op log + k) (lines_count op xs)

at_most_one : (d f y : ℕ) (more : List LeftFrame) → ListsFrame d f y more → length more ≤ 1
at_most_one d f y _ (ListsFrame.others off) = omega arith
at_most_one d f y _ (ListsFrame.left own some) = omega arith

module _ (v w : PortValue) (d op f y : ℕ) (m : Moves v w (Refs f) Load kinds.Look None y) where
  refs_came : Came v w
  refs_came = moves_came v w (Refs f) Load kinds.Look None y m

  -- this frame
  found_here : (since : ℕ) (log : List LogLine) (more : List LeftFrame) → since ≤ length v.holdings.steps → ListsFrame d f y more →
      IsTrue (some_since (sizes_of v.post.machine) since (Refs f) (λ w. not (is_owned_by d w)) w.holdings.steps) ⊎ IsListed v.post.machine d since f w.holdings op (log ++ left_lines op more)
  unfolding left_by
  found_here since log _ late (ListsFrame.others off) = inl (moves_since v w (Refs f) Load kinds.Look None y m since (λ w. not (is_owned_by d w)) late (not_owned d y off))
  found_here since log _ late (ListsFrame.left own some) =
      inr
      (record {
        word = y;
        line = Contains-push log (lines.Left op f y);
        found = moves_since v w (Refs f) Load kinds.Look None y m since (λ w. w == y) late (when_eq y y refl);
        owned = own;
        counted = some;
      })

  found_more : (s since : ℕ) (log : List LogLine) (more : List LeftFrame) → ListsFrame d f y more → FoundListed v.post.machine s d f since v.holdings op log →
      FoundListed v.post.machine s d (f + 1) since w.holdings op (log ++ left_lines op more)
  found_more s since log more which known =
      let stays = found_listed_stays v w refs_came v.post.machine s d f since op log known in
      record {
        unused = stays.unused;
        listed = λ g low real. elim (cases_eq g f) [
          | inl at ↦
              subst (λ k. IsTrue (some_since (sizes_of v.post.machine) since (Refs k) (λ w. not (is_owned_by d w)) w.holdings.steps) ⊎ IsListed v.post.machine d since k w.holdings op (log ++ left_lines op more)) (sym at)
              (found_here since log more known.unused.cleared.order which)
          | inr away ↦
              elim (stays.listed g (let a : g ≢ f = away in omega arith) real) [
                | inl others ↦ inl others
                | inr line ↦
                    inr
                    (record {
                      word = line.word;
                      line = Contains-append_left log (left_lines op more) (lines.Left op g line.word) line.line;
                      found = line.found;
                      owned = line.owned;
                      counted = line.counted;
                    })
              ]
        ];
      }

  module _ (left : ℕ) (log : List LogLine) (more : List LeftFrame) (which : ListsFrame d f y more) where
    pub come_listed : f < v.post.machine.frames → HasComeTo v d (Lists f left) op log → HasComeTo w d (Lists (f + 1) (left + length more)) op (log ++ left_lines op more)
    come_listed real come =
        let one = at_most_one d f y more which in
        let few = come.few in
        subst (λ (q : Post). HasCome q.machine q.vcpu d (Lists (f + 1) (left + length more)) op (log ++ left_lines op more) w.holdings) (sym (came_post v w refs_came))
        (record {
          knows = (come.knows.0, found_more v.post.vcpu come.knows.0 log more which come.knows.1);
          counts = lefts_then op log more ∙ ap (λ k. k + length more) come.counts;
          few = omega (arith, one, few);
          inside = omega arith;
        })

-- ---- the log and the course
module _ (d op : ℕ) (v : PortValue) (at : DestroyAt) (log : List LogLine) (u w : PortValue) (f left y : ℕ) (before : List LogLine) (m : Moves u w (Refs f) Load kinds.Look None y)
    (real : f < u.post.machine.frames) (lists : ListsOn d op v at log u (Lists f left) before (Ok tt)) where
  pub lists_more : (more : List LeftFrame) (after : List LogLine) → ListsFrame d f y more → after ≡ before ++ left_lines op more → ListsOn d op v at log w (Lists (f + 1) (left + length more)) after (Ok tt)
  lists_more more after which is = (
    lists.0 ++ more,
    GoesOn.advances u w (Lists f left) (Lists (f + 1) (left + length more)) lists.0 more [] [] (Ok tt) lists.1 (Advances.listed f left y w more real m which),
    is ∙ ap (λ (ls : List LogLine). ls ++ left_lines op more) lists.2 ∙ append_assoc log (left_lines op lists.0) (left_lines op more) ∙ ap (λ (ls : List LogLine). log ++ ls) (sym (lines_then op lists.0 more)),
  )

  pub lists_half_free : owner_of y ≡ Some d → IsTrue (is_dying y) → ListsOn d op v at log w (Lists f left) before (Err (Paused (Busy f y)))
  lists_half_free own half = (
    lists.0 ++ [],
    GoesOn.advances u w (Lists f left) (Lists f left) lists.0 [] [] [] (Err (Paused (Busy f y))) lists.1 (Advances.half_free f left y w real m own half),
    lists.2 ∙ ap (λ (xs : List LeftFrame). log ++ left_lines op xs) (sym (append-nil lists.0)),
  )

-- a frame of the domain that is half free
pub half_free_stops : (v w : PortValue) (d f y : ℕ) → Moves v w (Refs f) Load kinds.Look None y → owner_of y ≡ Some d → IsTrue (is_dying y) → StopsDestroyer v w d (Paused (Busy f y))
unfolding Stops
half_free_stops v w d f y m own half = λ rose rises. inr (pauses.IsInTheWay.dying d refl (found_there v w (Refs f) Load kinds.Look None y m) own half)

-- ---- a reference word that was read
module _ (y d : ℕ) (r : Option RefWord) (is : r ≡ ref_read y) where
  pub own_word : owner_in r ≡ Some d → owner_of y ≡ Some d
  unfolding owner_of
  own_word e = ap owner_in (sym is) ∙ e

  pub other_word : owner_in r ≢ Some d → owner_of y ≢ Some d
  unfolding owner_of
  other_word off e = off (ap owner_in is ∙ e)

  pub half_word : is_dying_in r ≡ true → IsTrue (is_dying y)
  unfolding is_dying
  half_word e = ap is_dying_in (sym is) ∙ e

  pub counted_word : (o k : ℕ) (allocated : Bool) (x : RefWord) → r ≡ Some x → x ≡ Owned o allocated k → IsRef x → 0 < ref_count y
  unfolding IsRef ref_count
  counted_word o k allocated x e same valid =
      let ref : IsRef (Owned o allocated k) = subst IsRef same valid in
      subst (λ w. 0 < count_in w) (sym (ap Some same) ∙ sym e ∙ is) ref.1

-- ---- more steps
pub come_stays : (v w : PortValue) (d op f left : ℕ) (log : List LogLine) → Came v w → HasComeTo v d (Lists f left) op log → HasComeTo w d (Lists f left) op log
come_stays v w d op f left log came come =
    subst (λ (q : Post). HasCome q.machine q.vcpu d (Lists f left) op log w.holdings) (sym (came_post v w came))
    (record {
      knows = (come.knows.0, found_listed_stays v w came v.post.machine v.post.vcpu d f come.knows.0 op log come.knows.1);
      counts = come.counts;
      few = come.few;
      inside = come.inside;
    })

-- so many more, by whether one was listed
pub left_more : (listed : Bool) (left k : ℕ) → k ≡ count_of listed → (if listed then left + 1 else left) ≡ left + k
left_more true left k is = omega (arith, is)
left_more false left k is = omega (arith, is)

-- what stops one part serves the same where it stops another
pub stopped_serves : {A B : Type 0} (v w : PortValue) (d : ℕ) (e : Stop) → ServesDestroy {A = A} v w d (Err e) → ServesDestroy {A = B} v w d (Err e)
stopped_serves v w d e a = record { deeds = a.deeds; are = a.are; serves = a.serves }

pub went_serves : {A B : Type 0} (v w : PortValue) (d : ℕ) (a : A) (b : B) → ServesDestroy v w d (Ok a) → ServesDestroy v w d (Ok b)
went_serves v w d a b s = record { deeds = s.deeds; are = s.are; serves = s.serves }

pub lines_long : (op : ℕ) (xs : List LeftFrame) → length (left_lines op xs) ≡ length xs
lines_long op [] = refl
lines_long op (x ∷ xs) = let rest = lines_long op xs in omega (arith, rest)

-- a log of a entries has b then
pub log_longer : (d f y op a b : ℕ) (xs ys : List LogLine) (more : List LeftFrame) → ListsFrame d f y more → a ≡ length xs → b ≡ length ys → ys ≡ xs ++ left_lines op more → b ≤ a + 1
log_longer d f y op a b xs ys more which p q is =
    let one = at_most_one d f y more which in
    let long = lines_long op more in
    let all : length ys ≡ length xs + length (left_lines op more) = ap (λ (ls : List LogLine). length ls) is ∙ length-append xs (left_lines op more) in
    omega (arith, one, long, all)
