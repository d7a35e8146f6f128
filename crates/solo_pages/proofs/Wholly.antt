-- A page that is cleared or copied ends as its plain meaning.
use Rattle.std.proofs.Common.{◌≡◌, ℕ, ◌<◌, true, List, length, None, Result, Ok, Err, IfErr, refl, sym, ap, ◌∙◌, subst}
use Rattle.xp_words.specs.Machine.{IsMachine, Machine}
use Rattle.xp_words.specs.declared.kind.PageType.TheVariants.{Writable}
use Rattle.xp_words.specs.declared.place.Place.TheVariants.{Cell}
use Rattle.xp_words.specs.declared.reply.Refusal.{Refusal}
use Rattle.xp_words.specs.declared.reply.Stop.{Stop}
use Rattle.xp_words.specs.declared.reply.Stop.TheVariants.{Refused, Paused}
use Rattle.xp_board.specs.Told.{Post, PortValue, is_telling, told_word}
use Rattle.step_maker.specs.Answers.{Stops}
use Rattle.step_maker.specs.Holds.{Rests}
use Rattle.step_maker.specs.Moves.{Came}
use Rattle.step_maker.specs.Visits.{Does, Visit}
use Rattle.step_maker.proofs.Coming.{came_post, came_trans}
use Rattle.step_maker.proofs.Telling.{came_telling}
use Rattle.step_maker.proofs.Visiting.{does_came}
use Rattle.answer_laws.proofs.Shared.{alone_telling}
use Rattle.replay_laws.specs.Replays.{ReplaysAs}
use Rattle.replay_laws.proofs.Replaying.{does_replays}
use Rattle.table_law.specs.Alone.{PlainOutcome, alone, take_reference}
use Rattle.table_law.specs.Plain.{Describes, Plain, Share, raised_share, reference_back, with_share}
use Rattle.table_law.specs.Release.{let_go}
use Rattle.table_entries.specs.Acquiring.{GaveRef, GaveType, GotRef}
use Rattle.table_entries.proofs.Shared.{gave_came, ref_came}
use Rattle.writable_pages.specs.Pages.{GotPage}
use Rattle.whole_pages.specs.Whole as whole
use Rattle.whole_pages.specs.Whole.{ClearedBy, ClearsPage, CopiedBy, CopiesPage, of_clear, of_copy}
use Rattle.course_laws.specs.Courses.{IsFinal, IsOrderly}
use Rattle.course_laws.proofs.Awaiting.{AloneStays, NeitherLostNorBusy, NobodyWaitedFor, alone_orderly}
use Rattle.exchange_laws.proofs.Going.{page_came}
use Rattle.table_twins.proofs.Sharing.{count_some}
use Rattle.script_law.specs.Pages.{clear_frame, copy_frame, with_page}
use Rattle.script_law.specs.Values.{Solo, Frames, Outcome, behind, did, looked_by, or_back, with_frames}
use Rattle.solo_ports.specs.Standing.{Clean, Fair}
use Rattle.solo_ports.specs.Coming.{Comes}
use Rattle.solo_pages.specs.Shown.{IsShown, SameBeside}
use Rattle.solo_pages.specs.Ends.{EndsSo, IsEnded}
use Rattle.solo_pages.proofs.Beside.{beside_same, beside_trans}
use Rattle.solo_pages.proofs.Coming.{behind_fine, behind_refused, comes, did_so, ended, shown_clean, shown_stays, stopped_so}
use Rattle.solo_pages.proofs.Filling.{Filled, cleared_words, copied_words, filled_described, lent, returned}
use Rattle.solo_pages.proofs.Giving.{gave_back, given, given_whole, let_go_is}
use Rattle.solo_pages.proofs.Memory.{EndsBeside, got_memory}
use Rattle.solo_pages.proofs.Referring.{RefTaken, gave_ref, ref_refused, ref_taken, refused_left}
use Rattle.solo_pages.proofs.Steps.{AtFrames, does_beside}
use Rattle.solo_pages.proofs.Whole.{alone_whole}

-- ---- as steps
pub type_came : (v w : PortValue) (f : ℕ) → GaveType v w f Writable → Came v w
type_came v w f gave = does_came v w _ gave.found

pub clears_came : (v : PortValue) (d f : ℕ) (w : PortValue) (r : Result (Unit {0}) Stop) → ClearsPage v d f w r → Came v w
clears_came v d f _ _ (whole.unhad w e got) = page_came v f d w _ got
clears_came v d f _ _ (whole.cleared a b w got steps gave) = came_trans v a w (page_came v f d a _ got) (came_trans a b w (does_came a b _ steps) (type_came b w f gave))

at_cleared : (f k : ℕ) (vs : List Visit) → ClearedBy f k vs → AtFrames vs
at_cleared f _ _ whole.none = tt
at_cleared f _ _ (whole.more i old vs by) = (tt, at_cleared f i vs by)

-- ---- memory given back, where all words are shown
module _ (n : Machine) (s : ℕ) (v w : PortValue) (f : ℕ) (y : Solo) (same : v.post.machine ≡ n) (telling : is_telling v ≡ true) (is : IsShown n s (told_word v) y) (gave : GaveType v w f Writable) where
  pub shown_given : IsShown n s (told_word w) (with_frames (let_go 0 f y.frames) y)
  shown_given =
      let g = gave_back n v w f Writable y.frames same telling is.frames refl gave.found in
      subst (λ p. IsShown n s (told_word w) (with_frames p y)) (sym (let_go_is f y.frames))
      (shown_stays n s (told_word v) (told_word w) y (given f Writable y.frames) is g.beside g.frames (given_whole n f Writable y.frames g.inside is.whole))

-- ---- cleared
module _ (n : Machine) (s : ℕ) (v : PortValue) (x : Solo) (machine : IsMachine n) (same : v.post.machine ≡ n) (telling : is_telling v ≡ true) (orderly : IsOrderly n (told_word v)) (is : IsShown n s (told_word v) x) (d : ℕ) where
  module _ (f : ℕ) where
    abbrev o : PlainOutcome
    o = alone n d 0 f x.frames

    had : (a : PortValue) (r : Result ℕ Stop) → IsEnded r → GotPage v f d a r → EndsBeside n v a o r
    had a r ended got = got_memory n machine v f d x.frames same telling is.frames is.whole orderly a r ended got

    pub unhad_so : (w : PortValue) (e : Stop) (next : Solo → Outcome) → IsEnded {A = ℕ} (Err e) → GotPage v f d w (Err e) → EndsSo {A = Unit {0}} n s (told_word w) (behind x o next) (Err e)
    unhad_so w (Refused y) next ended got = let h = had w (Err (Refused y)) ended got in behind_refused n s (told_word v) (told_word w) x o next y is h.beside (alone_whole n d f x.frames is.whole) h.ends
    unhad_so w (Paused y) next ended got = absurd ended

    pub had_so : (a : PortValue) → GotPage v f d a (Ok f) → (o.refusal ≡ None) × IsShown n s (told_word a) (with_frames o.left x)
    had_so a got = let h = had a (Ok f) tt got in (h.ends.0, shown_stays n s (told_word v) (told_word a) x o.left is h.beside h.ends.1 (alone_whole n d f x.frames is.whole))

  cleared_so : (f : ℕ) (a b w : PortValue) → GotPage v f d a (Ok f) → Does a b (λ vs. ClearedBy f 512 vs) → GaveType b w f Writable → EndsSo {A = Unit {0}} n s (told_word w) (clear_frame n d f x) (Ok tt)
  cleared_so f a b w got steps gave =
      let h = had_so f a got in
      let to_a = page_came v f d a _ got in
      let to_b = came_trans v a b to_a (does_came a b _ steps) in
      let q = (o f).left in
      let all : ReplaysAs (told_word a) (λ vs. ClearedBy f 512 vs) (told_word b) = does_replays a b _ (came_telling v a to_a ∙ telling) steps in
      let filled = filled_described n (told_word a) (told_word b) f (λ j. 0) (λ j. 0) q h.1.frames (cleared_words f 512 all.list (told_word a) (told_word b) all.like all.replays) (λ j few. refl) in
      let y = with_frames (with_page f (λ j. 0) q) x in
      let at_b : IsShown n s (told_word b) y = shown_stays n s (told_word a) (told_word b) (with_frames q x) (with_page f (λ j. 0) q) h.1 (does_beside a b _ (at_cleared f 512) steps) filled h.1.whole in
      let at_w = shown_given n s b w f y (ap (λ (p : Post). p.machine) (came_post v b to_b) ∙ same) (came_telling v b to_b ∙ telling) at_b gave in
      did_so n s (told_word w) (clear_frame n d f x) (with_frames (let_go 0 f (with_page f (λ j. 0) q)) x) (behind_fine x (o f) _ h.0) at_w

  pub clears_so : (f : ℕ) (w : PortValue) (r : Result (Unit {0}) Stop) → IsEnded r → ClearsPage v d f w r → EndsSo n s (told_word w) (clear_frame n d f x) r
  clears_so f _ _ ended (whole.unhad w e got) = unhad_so f w e _ ended got
  clears_so f _ _ ended (whole.cleared a b w got steps gave) = cleared_so f a b w got steps gave

-- ---- copied
pub copies_came : (v : PortValue) (d to from : ℕ) (words : List ℕ) (w : PortValue) (r : Result (Unit {0}) Stop) → CopiesPage v d to from words w r → Came v w
copies_came v d to from words _ _ (whole.unhad w e got) = page_came v to d w _ got
copies_came v d to from words _ _ (whole.unreferred a b w e got ref gave) = came_trans v a w (page_came v to d a _ got) (came_trans a b w (ref_came a b from d _ ref) (type_came b w to gave))
copies_came v d to from words _ _ (whole.copied a b c e w long got ref steps back gave) =
    came_trans v a w (page_came v to d a _ got) (came_trans a b w (ref_came a b from d _ ref) (came_trans b c w (does_came b c _ steps) (came_trans c e w (gave_came c e from back) (type_came e w to gave))))

at_copied : (to from : ℕ) (xs : List ℕ) (vs : List Visit) → CopiedBy to from xs vs → AtFrames vs
at_copied to from _ _ whole.none = tt
at_copied to from _ _ (whole.more x old xs vs by) = (tt, (tt, at_copied to from xs vs by))

module _ (n : Machine) (s : ℕ) (v : PortValue) (x : Solo) (machine : IsMachine n) (same : v.post.machine ≡ n) (telling : is_telling v ≡ true) (orderly : IsOrderly n (told_word v)) (is : IsShown n s (told_word v) x) (d to from : ℕ) (a : PortValue) (got : GotPage v to d a (Ok to)) where
  abbrev target : PlainOutcome
  target = alone n d 0 to x.frames

  abbrev q : Plain
  q = (alone n d 0 to x.frames).left

  h : (target.refusal ≡ None) × IsShown n s (told_word a) (with_frames q x)
  h = had_so n s v x machine same telling orderly is d to a got

  to_a : Came v a
  to_a = page_came v to d a _ got

  on_a : a.post.machine ≡ n
  on_a = ap (λ (p : Post). p.machine) (came_post v a to_a) ∙ same

  tells_a : is_telling a ≡ true
  tells_a = came_telling v a to_a ∙ telling

  abbrev goes : Solo → Outcome
  goes = λ s. did (with_frames (let_go 0 to (with_page to (s.frames.cells from) s.frames)) s)

  copy_is : copy_frame n d to from x ≡ or_back (looked_by (take_reference n d from q).refusal (with_frames q x) goes) (let_go 0 to)
  copy_is = behind_fine x target _ h.0

  unreferred_so : (b w : PortValue) (y : Refusal) → GotRef a b from d (Err (Refused y)) → GaveType b w to Writable → EndsSo {A = Unit {0}} n s (told_word w) (copy_frame n d to from x) (Err (Refused y))
  unreferred_so b w y ref gave =
      let r = ref_refused n a b d from q y on_a tells_a h.1.frames ref in
      let e = r.ends in
      let came = ref_came a b from d _ ref in
      let described = subst (λ p. Describes n (told_word b) p) (refused_left n d from q e.0 e.1) e.3 in
      let at_b = shown_stays n s (told_word a) (told_word b) (with_frames q x) q h.1 (beside_same (told_word a) (told_word b) r.same) described h.1.whole in
      let at_w = shown_given n s b w to (with_frames q x) (ap (λ (p : Post). p.machine) (came_post a b came) ∙ on_a) (came_telling a b came ∙ tells_a) at_b gave in
      stopped_so n s (told_word w) (copy_frame n d to from x) (with_frames (let_go 0 to q) x) y (Frames e.0) (copy_is ∙ ap (λ r. or_back (looked_by r (with_frames q x) goes) (let_go 0 to)) e.1) e.2 at_w

  unreferred_by : (b w : PortValue) (e : Stop) → IsFinal e → GotRef a b from d (Err e) → GaveType b w to Writable → EndsSo {A = Unit {0}} n s (told_word w) (copy_frame n d to from x) (Err e)
  unreferred_by b w (Refused y) final ref gave = unreferred_so b w y ref gave
  unreferred_by b w (Paused y) final ref gave = absurd final

  module _ (b c e w : PortValue) (words : List ℕ) (long : length words ≡ 512) (ref : GotRef a b from d (Ok from)) (steps : Does b c (λ vs. CopiedBy to from words vs)) (back : GaveRef c e from) (gave : GaveType e w to Writable) where
    r : RefTaken n a b d from q
    r = ref_taken n a b d from q on_a machine tells_a h.1.frames ref

    abbrev lends : Share
    lends = r.lent.share

    to_b : Came a b
    to_b = ref_came a b from d _ ref

    to_c : Came a c
    to_c = came_trans a b c to_b (does_came b c _ steps)

    to_e : Came a e
    to_e = came_trans a c e to_c (gave_came c e from back)

    abbrev page : Plain
    page = with_page to (q.cells from) q

    at_b : Describes n (told_word b) (with_share from (raised_share lends) q)
    at_b = subst (λ (o : PlainOutcome). Describes n (told_word b) o.left) r.lent.is r.frames

    some : 0 < lends.count
    some = count_some n (told_word a) q from lends h.1.frames (sym (h.1.frames.shares from r.lent.inside) ∙ r.lent.was)

    at_c : Describes n (told_word c) (lent from lends page r.lent.was some)
    at_c =
        let all : ReplaysAs (told_word b) (λ vs. CopiedBy to from words vs) (told_word c) = does_replays b c _ (came_telling a b to_b ∙ tells_a) steps in
        let filled = subst (λ k. Filled (told_word b) (told_word c) to k (λ j. told_word b (Cell from j))) long (copied_words to from words all.list (told_word b) (told_word c) all.like all.replays) in
        filled_described n (told_word b) (told_word c) to (λ j. told_word b (Cell from j)) (q.cells from) (with_share from (raised_share lends) q) at_b filled (λ j few. at_b.cells from j r.lent.inside few)

    gives : Describes n (told_word e) (reference_back from (lent from lends page r.lent.was some)) × SameBeside (told_word c) (told_word e)
    gives = gave_ref n c e from (lent from lends page r.lent.was some) (ap (λ (p : Post). p.machine) (came_post a c to_c) ∙ on_a) (came_telling a c to_c ∙ tells_a) at_c back

    at_e : IsShown n s (told_word e) (with_frames page x)
    at_e =
        let beside = beside_trans (told_word a) (told_word b) (told_word e) r.beside (beside_trans (told_word b) (told_word c) (told_word e) (does_beside b c _ (at_copied to from words) steps) gives.1) in
        shown_stays n s (told_word a) (told_word e) (with_frames q x) page h.1 beside (returned from lends page r.lent.was some n (told_word e) gives.0) h.1.whole

    pub copied_so : EndsSo {A = Unit {0}} n s (told_word w) (copy_frame n d to from x) (Ok tt)
    copied_so =
        did_so n s (told_word w) (copy_frame n d to from x) (with_frames (let_go 0 to page) x) (copy_is ∙ ap (λ r. or_back (looked_by r (with_frames q x) goes) (let_go 0 to)) r.free)
        (shown_given n s e w to (with_frames page x) (ap (λ (p : Post). p.machine) (came_post a e to_e) ∙ on_a) (came_telling a e to_e ∙ tells_a) at_e gave)

pub copies_so : (n : Machine) (s : ℕ) (v : PortValue) (x : Solo) → IsMachine n → v.post.machine ≡ n → is_telling v ≡ true → IsOrderly n (told_word v) → IsShown n s (told_word v) x → (d to from : ℕ) (words : List ℕ) (w : PortValue) (r : Result (Unit {0}) Stop) →
    IsEnded r → CopiesPage v d to from words w r → EndsSo n s (told_word w) (copy_frame n d to from x) r
copies_so n s v x machine same telling orderly is d to from words _ _ ended (whole.unhad w e got) = unhad_so n s v x machine same telling orderly is d to w e _ ended got
copies_so n s v x machine same telling orderly is d to from words _ _ ended (whole.unreferred a b w e got ref gave) = unreferred_by n s v x machine same telling orderly is d to from a got b w e ended ref gave
copies_so n s v x machine same telling orderly is d to from words _ _ ended (whole.copied a b c e w long got ref steps back gave) = copied_so n s v x machine same telling orderly is d to from a got b c e w words long ref steps back gave

-- ---- the law
module _ (stays : AloneStays) (neither : NeitherLostNorBusy) (nobody : NobodyWaitedFor) where
  pub clear_comes : (v w : PortValue) (x : Solo) (d f : ℕ) (answer : Result (Unit {0}) Stop) → Clean v x → Fair v w → ClearsPage v d f w answer → IfErr answer (λ e. Stops v w (of_clear d f) e) → Rests w →
      Comes (λ v x. ⊥) w x (clear_frame v.post.machine d f x) answer
  clear_comes v w x d f answer clean fair course stops ends =
      let telling = alone_telling v clean.stands.alone in
      comes stays v w x (clear_frame v.post.machine d f x) answer clean (clears_came v d f w answer course) ends.empty
      (clears_so v.post.machine v.post.vcpu v x clean.stands.machine refl telling (alone_orderly v clean.stands.alone) (shown_clean v x clean) d f w answer
      (ended stays neither nobody v w x (of_clear d f) answer clean fair refl refl stops) course)

  pub copy_comes : (v w : PortValue) (x : Solo) (d to from : ℕ) (words : List ℕ) (answer : Result (Unit {0}) Stop) → Clean v x → Fair v w → CopiesPage v d to from words w answer → IfErr answer (λ e. Stops v w (of_copy d to from) e) → Rests w →
      Comes (λ v x. ⊥) w x (copy_frame v.post.machine d to from x) answer
  copy_comes v w x d to from words answer clean fair course stops ends =
      let telling = alone_telling v clean.stands.alone in
      comes stays v w x (copy_frame v.post.machine d to from x) answer clean (copies_came v d to from words w answer course) ends.empty
      (copies_so v.post.machine v.post.vcpu v x clean.stands.machine refl telling (alone_orderly v clean.stands.alone) (shown_clean v x clean) d to from words w answer
      (ended stays neither nobody v w x (of_copy d to from) answer clean fair refl refl stops) course)
