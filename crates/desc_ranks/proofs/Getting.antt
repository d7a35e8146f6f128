-- A page is taken, or not, from port to port.
use Rattle.std.proofs.Common.{◌≡◌, ℕ, ◌<◌, ◌≤◌, ◌^◌, true, false, List, None, Result, Ok, Err, IsTrue, refl, ap, ◌∙◌, subst, arith}
use Rattle.xp_words.specs.KindWords.{is_kind, kind_fields}
use Rattle.xp_words.specs.Machine.{Machine}
use Rattle.xp_words.specs.declared.kind.KindWord.{KindWord}
use Rattle.xp_words.specs.declared.kind.PageType.TheVariants.{Desc}
use Rattle.xp_words.specs.declared.place.Place.{Place}
use Rattle.xp_words.specs.declared.place.Place.TheVariants.{Kind, Refs}
use Rattle.xp_words.specs.declared.reply.Stop.{Stop}
use Rattle.xp_words.specs.declared.reply.Stop.TheVariants.{Refused, Paused}
use Rattle.xp_words.proofs.KindLaws.{fields_back as written}
use Rattle.xp_board.specs.Lists.{EachOf}
use Rattle.xp_board.specs.Readings.{kind_at}
use Rattle.xp_board.specs.Told.{PortValue, told_word}
use Rattle.step_maker.specs.Moves.{Came}
use Rattle.step_maker.specs.Plain.{Words}
use Rattle.step_maker.proofs.Coming.{came_trans, moves_came}
use Rattle.step_maker.proofs.Telling.{came_telling}
use Rattle.step_maker.specs.Visits.{Does, Visit, visits}
use Rattle.step_maker.proofs.Visiting.{does_came}
use Rattle.frame_words.specs.Plain.{got, refer}
use Rattle.kept_marks.specs.Marks as marks
use Rattle.kind_words.specs.Kinds.{live_kind, partial_kind}
use Rattle.frame_types.specs.declared.taking.Taken as taking
use Rattle.frame_types.specs.declared.taking.Taken.TheVariants as types
use Rattle.table_entries.specs.Acquiring.{GaveRef, GotRef}
use Rattle.table_entries.proofs.Shared.{ref_came, gave_came}
use Rattle.course_laws.proofs.Awaiting.{AloneStays}
use Rattle.course_laws.proofs.Walking.{kept_came}
use Rattle.acquisition_laws.proofs.Lows.{type_low}
use Rattle.desc_pages.specs.Fixing as fixing
use Rattle.desc_pages.specs.Fixing.{FixesBy}
use Rattle.desc_pages.specs.Pages as pages
use Rattle.desc_pages.specs.Pages.{DescLeft, GotDesc, PageValidated, TookDesc, TookDescType}
use Rattle.frame_ranks.specs.Ranks.{AreAllAlive, rank_at, rank_of}
use Rattle.frame_ranks.proofs.Entering.{refer_inside}
use Rattle.frame_ranks.proofs.Facing.{Calm, Turned, calm_then, calm_turned, got_calm, same_calm, store_turned, turned_twice}
use Rattle.frame_ranks.proofs.Going.{At, IsGoing, at_later, at_spelled, at_telling}
use Rattle.frame_ranks.proofs.Leaving.{kept_turned}
use Rattle.frame_ranks.proofs.Stepping.{IsQuiet, gave_calm, ran_calm}
use Rattle.frame_ranks.proofs.Taking.{takes_wait, takes_work}
use Rattle.desc_ranks.proofs.Counts.{Taken, begun, counted}
use Rattle.desc_ranks.proofs.Taking.{begins_low, takes_counted}

-- live, with a type count more
pub record TakenAs (m x : Words) (f : ℕ) : Type 0 where
  pub word : KindWord
  pub turned : Turned m x f word
  pub live : word.validated ≡ true
  pub taken : Taken (kind_at m f) word

-- no frame reads otherwise; or the frame waits, which was not live, and stands no lower
pub data LeftAs (m x : Words) (f : ℕ) : Type 0 where
  unchanged : Calm m x → LeftAs m x f
  waits : (word : KindWord) → Turned m x f word → (kind_at m f).validated ≡ false → word.validated ≡ false → rank_at m f ≤ rank_of word → LeftAs m x f

abbrev pub LeftBy : Words → Words → ℕ → Stop → Type 0
LeftBy m x f (Refused r) = Unit {0}
LeftBy m x f (Paused p) = LeftAs m x f

abbrev pub AnsweredBy : {A : Type 0} → Words → Words → ℕ → Result A Stop → Type 0
AnsweredBy m x f (Ok done) = TakenAs m x f
AnsweredBy m x f (Err e) = LeftBy m x f e

-- ---- behind its reference
pub taken_before : (m u x : Words) (f : ℕ) → Calm m u → kind_at u f ≡ kind_at m f → TakenAs u x f → TakenAs m x f
taken_before m u x f calm same a = record { word = a.word; turned = calm_turned m u x f a.word calm a.turned; live = a.live; taken = subst (λ k. Taken k a.word) same a.taken }

pub left_before : (m u x : Words) (f : ℕ) → Calm m u → kind_at u f ≡ kind_at m f → LeftAs u x f → LeftAs m x f
left_before m u x f c same (unchanged a) = unchanged (calm_then m u x c a)
left_before m u x f c same (waits word turned dead off low) =
    waits word (calm_turned m u x f word c turned) (subst (λ (k : KindWord). k.validated ≡ false) same dead) off (subst (λ k. rank_of k ≤ rank_of word) same low)

pub answered_before : {A : Type 0} (m u x : Words) (f : ℕ) (r : Result A Stop) → Calm m u → kind_at u f ≡ kind_at m f → AnsweredBy u x f r → AnsweredBy m x f r
answered_before m u x f (Ok done) calm same a = taken_before m u x f calm same a
answered_before m u x f (Err (Refused r)) calm same a = tt
answered_before m u x f (Err (Paused p)) calm same a = left_before m u x f calm same a

-- ---- its words
fixes_quiet : (f i : ℕ) (vs : List Visit) → FixesBy f i vs → EachOf IsQuiet vs
unfolding EachOf
fixes_quiet f _ _ fixing.FixesBy.none = tt
fixes_quiet f _ _ (fixing.FixesBy.stands i x vs is more) = (refl, fixes_quiet f i vs more)
fixes_quiet f _ _ (fixing.FixesBy.changes i x y old vs is off more) = (refl, (refl, fixes_quiet f i vs more))

fixes_calm : (y z : PortValue) (f : ℕ) → Does y z (λ vs. FixesBy f 512 vs) → Calm (told_word y) (told_word z)
unfolding Does
fixes_calm y z f d = ran_calm y z d.0 d.1 (fixes_quiet f 512 (visits d.0) d.2)

-- from one port to another: by how it was answered
pub record Gets {A : Type 0} (v w : PortValue) (f : ℕ) (r : Result A Stop) : Type 0 where
  pub answered : AnsweredBy (told_word v) (told_word w) f r
  pub came : IsGoing r → Came v w

same_going : (e : Stop) → IsGoing {A = ℕ} (Err e) → IsGoing {A = Unit {0}} (Err e)
same_going (Refused r) going = absurd going
same_going (Paused p) going = tt

module _ (stays : AloneStays) (n : Machine) (f owner : ℕ) where
  -- ---- under the reference in hand
  module _ (v : PortValue) (at : At n v) (alive : AreAllAlive n (told_word v)) (inside : f < n.frames) where
    spelled : IsTrue (is_kind (kind_at (told_word v) f))
    spelled = at_spelled n v at f inside

    type_came : (y : PortValue) (r : Result taking.Taken Stop) → TookDescType v y f owner r → Came v y
    type_came y r type = does_came v y _ type.found

    untyped_as : (y w : PortValue) (e : Stop) → TookDescType v y f owner (Err e) → GaveRef y w f → LeftBy (told_word v) (told_word w) f e
    untyped_as y w (Refused r) type gave = tt
    untyped_as y w (Paused p) type gave =
        let on = came_telling v y (type_came y _ type) ∙ at_telling n v at in
        unchanged (calm_then (told_word v) (told_word y) (told_word w) (same_calm (told_word v) (told_word y) (type.plain (at_telling n v at)).1) (gave_calm y w f on gave))

    counted_as : (w : PortValue) → TookDescType v w f owner (Ok types.Counted) → TakenAs (told_word v) (told_word w) f
    counted_as w type =
        let p = type.plain (at_telling n v at) in
        let c = takes_counted (told_word v) (told_word w) f spelled p.0 p.1 p.2 in
        record { word = _; turned = c.2; live = c.0; taken = counted c.0 c.1 refl }

    waiting_as : (y w : PortValue) (stamp : ℕ) (e : Stop) → TookDescType v y f owner (Ok (types.Waiting true stamp e)) → DescLeft y w f owner stamp e → LeftBy (told_word v) (told_word w) f e
    waiting_as y w stamp (Refused r) type left = tt
    waiting_as y w stamp (Paused p) type left =
        let plainly = type.plain (at_telling n v at) in
        let took = takes_wait (told_word v) f Desc (told_word y) spelled plainly.0 true stamp (Paused p) plainly.1 plainly.2 in
        let at_y = at_later stays n v y at (type_came y _ type) in
        let on_y : AreAllAlive n (told_word y) = λ d real. took.1.1.lives d ∙ alive d real in
        let k = partial_kind Desc true true 0 stamp in
        let low : stamp < 2 ^ 36 = type_low v y f owner Desc (types.Waiting true stamp (Paused p)) type.found in
        let kept = kept_turned n y w f k owner at_y on_y (written k low (omega arith)) left in
        let least = took.0.low in
        waits k (turned_twice (told_word v) (told_word y) (told_word w) f took.1.0 k took.1.1 kept) took.0.dead refl least

    -- its words are read: it is live then, or refused
    read_as : (y w : PortValue) (r : Result (Unit {0}) Stop) → TookDescType v y f owner (Ok (types.InWork 0 true)) → PageValidated y w f r → AnsweredBy (told_word v) (told_word w) f r
    read_as y w _ type (pages.PageValidated.unfixed z e i word less unfixes died) = tt
    read_as y w _ type (pages.PageValidated.fixed z e old fixes stores) =
        let plainly = type.plain (at_telling n v at) in
        let took = takes_work (told_word v) f Desc (told_word y) spelled plainly.0 0 true plainly.1 plainly.2 in
        let low = begins_low (told_word v) (told_word y) f spelled 0 true plainly.0 plainly.1 in
        let k = live_kind Desc 1 in
        let on = came_telling y z (does_came y z _ fixes.visits) ∙ came_telling v y (type_came y _ type) ∙ at_telling n v at in
        let calm = fixes_calm y z f fixes.visits in
        let stored = store_turned z w f k _ None old on (written k (omega arith) (omega arith)) stores in
        record {
          word = k;
          turned = turned_twice (told_word v) (told_word y) (told_word w) f took.word k took.turned (calm_turned (told_word y) (told_word z) (told_word w) f k calm stored);
          live = refl;
          taken = begun low.0 low.1 refl;
        }

    read_came : (y w : PortValue) (r : Result (Unit {0}) Stop) → Came v y → PageValidated y w f r → IsGoing r → Came v w
    read_came y w _ came (pages.PageValidated.unfixed z e i word less unfixes died) going = absurd going
    read_came y w _ came (pages.PageValidated.fixed z e old fixes stores) going = came_trans v y w came (came_trans y z w (does_came y z _ fixes.visits) (moves_came z w _ _ _ _ _ stores))

    left_came : (y w : PortValue) (stamp : ℕ) (e : Stop) → Came v y → DescLeft y w f owner stamp e → Came v w
    left_came y w stamp (Refused r) came left = came_trans v y w came (does_came y w _ left)
    left_came y w stamp (Paused p) came left = came_trans v y w came (kept_came y w f _ owner left)

    pub took_gets : (w : PortValue) (r : Result (Unit {0}) Stop) → TookDesc v f owner w r → Gets v w f r
    took_gets _ _ (pages.TookDesc.untyped y w e type gave) = record { answered = untyped_as y w e type gave; came = λ going. came_trans v y w (type_came y _ type) (gave_came y w f gave) }
    took_gets _ _ (pages.TookDesc.counted w type) = record { answered = counted_as w type; came = λ going. type_came w _ type }
    took_gets _ _ (pages.TookDesc.waiting y w stamp e type left) = record { answered = waiting_as y w stamp e type left; came = λ going. left_came y w stamp e (type_came y _ type) left }
    took_gets _ _ (pages.TookDesc.read y w r type validated) = record { answered = read_as y w r type validated; came = λ going. read_came y w r (type_came y _ type) validated going }

  -- ---- with a reference of its own
  module _ (v : PortValue) (at : At n v) (alive : AreAllAlive n (told_word v)) where
    module _ (u : PortValue) (ref : GotRef v u f owner (Ok f)) where
      plain : (refer v.post.machine owner f (told_word v (Refs f)) ≡ None) × ((q : Place) → told_word u q ≡ got f (told_word v) q)
      plain = ref.plain (at_telling n v at)

      real : f < n.frames
      real = refer_inside n owner f (told_word v (Refs f)) (subst (λ k. refer k owner f (told_word v (Refs f)) ≡ None) at.machine plain.0)

      calm_there : Calm (told_word v) (told_word u)
      calm_there = calm_then (told_word v) (got f (told_word v)) (told_word u) (got_calm f (told_word v)) (same_calm (got f (told_word v)) (told_word u) plain.1)

      behind : {A : Type 0} (w : PortValue) (r : Result A Stop) → Gets u w f r → Gets v w f r
      behind w r g =
          record {
            answered = answered_before (told_word v) (told_word u) (told_word w) f r calm_there (ap kind_fields (plain.1 (Kind f))) g.answered;
            came = λ going. came_trans v u w (ref_came v u f owner _ ref) (g.came going);
          }

      taken_there : (w : PortValue) (r : Result (Unit {0}) Stop) → TookDesc u f owner w r → Gets v w f r
      taken_there w r took = behind w r (took_gets u (at_later stays n v u at (ref_came v u f owner _ ref)) (λ d inside. calm_there.lives d ∙ alive d inside) real w r took)

    unreferred_as : (w : PortValue) (e : Stop) → GotRef v w f owner (Err e) → LeftBy (told_word v) (told_word w) f e
    unreferred_as w (Refused r) ref = tt
    unreferred_as w (Paused p) ref = absurd (ref.plain (at_telling n v at))

    pub got_gets : (w : PortValue) (r : Result ℕ Stop) → GotDesc v f owner w r → Gets v w f r
    got_gets _ _ (pages.GotDesc.unreferred w e ref) = record { answered = unreferred_as w e ref; came = λ going. ref_came v w f owner _ ref }
    got_gets _ _ (pages.GotDesc.untaken u w e ref took) = let g = taken_there u ref w (Err e) took in record { answered = g.answered; came = λ going. g.came (same_going e going) }
    got_gets _ _ (pages.GotDesc.had u w ref took) = let g = taken_there u ref w (Ok tt) took in record { answered = g.answered; came = λ going. g.came tt }
