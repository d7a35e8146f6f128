-- What the steps on tables in work are to a call that asked these tables.
use Rattle.std.proofs.Common.{◌≡◌, ◌⊎◌, ℕ, Bool, true, false, List, [], ◌∷◌, ◌++◌, Some, None, IsTrue, refl, sym, ap, ◌∙◌, subst, append_assoc, inl, inr, if◌then◌else◌, Option, Result, Ok, Err, IfErr, append-nil, arith}
use Rattle.xp_words.specs.Machine.{Machine}
use Rattle.xp_words.specs.KindWords.{is_kind, kind_fields, kind_write}
use Rattle.xp_words.specs.declared.kind.KindWord.{KindWord}
use Rattle.xp_words.specs.declared.place.Place.TheVariants.{Clock, Kind}
use Rattle.xp_board.specs.declared.step.Act.TheVariants.{Load, Store}
use Rattle.xp_board.specs.declared.step.Mark.TheVariants.{Record}
use Rattle.xp_board.specs.Told.{Post, PortValue}
use Rattle.step_maker.specs.Moves.{Came, Met, Moment, Moves}
use Rattle.step_maker.proofs.Coming.{came_post, met_before, moves_came, met_after}
use Rattle.step_maker.specs.Answers.{Deed, Misses, Serves, Stops, missed, misses}
use Rattle.step_maker.specs.Asked.{Asked, IsAsked, Request, of, of_back, of_frame, NoMore, Within}
use Rattle.step_maker.specs.Finding.{Finding}
use Rattle.step_maker.specs.Reasons.{keeps_type}
use Rattle.step_maker.proofs.Piecing.{same_request, serves_back, serves_call, serves_came, serves_step, serves_inner, serves_nothing, stops_before, stops_inner}
use Rattle.step_maker.proofs.Keeping.{kept_type}
use Rattle.step_maker.proofs.Progressing.{progress_after}
use Rattle.step_maker.specs.Pauses.{Progress}
use Rattle.xp_words.specs.declared.reply.Pause.TheVariants.{Due}
use Rattle.xp_words.specs.declared.reply.Stop.TheVariants.{Paused}
use Rattle.frame_types.specs.Leaving.{ServesType}
use Rattle.table_entries.proofs.PiecesTaking.{left_serves}
use Rattle.frame_types.proofs.Serving.{work_alive}
use Rattle.kind_words.proofs.KindFacts.{work_word}
use Rattle.kind_words.proofs.KindWriting.{fields_write}
use Rattle.table_words.specs.OldWords.{old_place}
use Rattle.table_words.specs.declared.old_words.OldWord.TheVariants.{First}
use Rattle.partial_state.specs.declared.stack.TableWork.{TableWork}
use Rattle.partial_state.specs.Levels.{level_type}
use Rattle.partial_state.specs.Stacks.{advanced, retreated}
use Rattle.kept_marks.specs.Marks.{IsForeign, ServesMark}
use Rattle.kept_marks.proofs.Keeping.{foreign_on as foreign_still}
use Rattle.level_validate.specs.Acquiring.{is_due_stop}
use Rattle.level_validate.specs.Serving.{AreAsked, CarriesOn, IsPiece, ServesLeft, ServesMarked}
use Rattle.level_validate.specs.Tables.{Carries, AreTables, StandsOn, refs_for}
use Rattle.level_validate.specs.Unwinding.{around_lent}
use Rattle.level_validate.proofs.Standing.{top, top_here, apart_first}
use Rattle.xp_words.specs.Entries.{below}
use Rattle.xp_words.specs.Places.{Sizes, sizes_of}
use Rattle.xp_words.specs.declared.kind.PageType.{PageType}
use Rattle.xp_words.specs.declared.reply.Stop.{Stop}
use Rattle.xp_board.specs.declared.holdings.Made.{Made}
use Rattle.xp_board.specs.declared.holdings.Reference.{Reference}
use Rattle.xp_board.specs.declared.holdings.Work.{Work}
use Rattle.xp_board.specs.Hands.{refs_to, work_on}
use Rattle.xp_board.specs.Lists.{first_by}
use Rattle.xp_board.proofs.ListCounts.{times_by-cons_other}
use Rattle.flush_waits.specs.Waiting.{IsWait}
use Rattle.flush_waits.proofs.Shared.{wait_missed as none_missed}
use Rattle.table_entries.specs.Asking.{AsksBelow, of_entries}
use Rattle.table_entries.proofs.PiecesWithin.{within_entries}
use Rattle.xp_board.specs.declared.step.StepKind.TheVariants as kinds
use Rattle.xp_board.specs.declared.holdings.OwnerFound.TheVariants as owners

-- ---- asked tables
-- what is asked stays asked where more is found
pub asked_later : (n : Machine) (s : ℕ) (r : Request) (F G : Finding) → ((m : Moment) → F m → G m) → (ts : List TableWork) → AreAsked n s r F ts → AreAsked n s r G ts
asked_later n s r F G more [] asks = asks
asked_later n s r F G more (t ∷ ts) asks = ((same_request n s r F G more).asked t.frame r.owner (Some (level_type t.level)) asks.0, asked_later n s r F G more ts asks.1)

-- how many of their entries are done with does not matter
pub asked_advanced : (n : Machine) (s : ℕ) (r : Request) (F : Finding) (ts : List TableWork) → AreAsked n s r F ts → AreAsked n s r F (advanced ts)
asked_advanced n s r F [] asks = asks
asked_advanced n s r F (t ∷ ts) asks = asks

pub asked_retreated : (n : Machine) (s : ℕ) (r : Request) (F : Finding) (ts : List TableWork) → AreAsked n s r F ts → AreAsked n s r F (retreated ts)
asked_retreated n s r F [] asks = asks
asked_retreated n s r F (t ∷ ts) asks = asks

pub asked_around : (b : Bool) (n : Machine) (s : ℕ) (r : Request) (F : Finding) (ts : List TableWork) → AreAsked n s r F ts → AreAsked n s r F (around_lent b ts)
asked_around true n s r F ts asks = asks
asked_around false n s r F ts asks = asked_retreated n s r F ts asks

-- a frame goes into the own first old word
pub old_serves : (u v w : PortValue) (r : Request) (ds : List Deed) → Serves u v r ds → (word : ℕ) → Moves v w (old_place v.post.vcpu First) (Store word) kinds.Context None 0 → Serves u w r ds
old_serves u v w r ds before word store =
    let same : v.post.vcpu ≡ u.post.vcpu = ap (λ (p : Post). p.vcpu) (came_post u v (serves_came u v r ds before)) in
    serves_step u v w r ds (old_place v.post.vcpu First) (Store word) kinds.Context None 0 before store (inl (same, inl (λ e. absurd cc)))

-- ---- pieces
-- the same steps, of which fewer tables are asked
pub piece_of : (u v : PortValue) (r : Request) (owner : ℕ) (ts us : List TableWork) (ds : List Deed) → (AreAsked u.post.machine u.post.vcpu r (Met u v) ts → AreAsked u.post.machine u.post.vcpu r (Met u v) us) →
    IsPiece u v r owner ts ds → IsPiece u v r owner us ds
piece_of u v r owner ts us ds less a = record { entries = a.entries; whose = a.whose; serves = a.serves; asked = less a.asked }

pub piece_rest : (u v : PortValue) (r : Request) (owner : ℕ) (t : TableWork) (ts : List TableWork) (ds : List Deed) → IsPiece u v r owner (t ∷ ts) ds → IsPiece u v r owner ts ds
piece_rest u v r owner t ts ds a = piece_of u v r owner (t ∷ ts) ts ds (λ asks. asks.1) a

pub piece_around : (b : Bool) (u v : PortValue) (r : Request) (owner : ℕ) (ts : List TableWork) (ds : List Deed) → IsPiece u v r owner ts ds → IsPiece u v r owner (around_lent b ts) ds
piece_around b u v r owner ts ds a = piece_of u v r owner ts (around_lent b ts) ds (asked_around b u.post.machine u.post.vcpu r (Met u v) ts) a

-- more steps, which serve too
pub piece_later : (u v w : PortValue) (r : Request) (owner : ℕ) (ts : List TableWork) (ds es : List Deed) → IsPiece u v r owner ts ds → Came v w → Serves u w r es → IsPiece u w r owner ts es
piece_later u v w r owner ts ds es a came serves =
    record {
      entries = a.entries;
      whose = a.whose;
      serves = serves;
      asked = asked_later u.post.machine u.post.vcpu r (Met u v) (Met u w) (λ m x. met_before u v w m x came) ts a.asked;
    }

module _ {u v : PortValue} (w : PortValue) {r : Request} {owner : ℕ} {ts : List TableWork} {ds : List Deed} (a : IsPiece u v r owner ts ds) where
  -- an entry is recorded
  pub piece_records : (f upto clock : ℕ) → Moves v w Clock Load kinds.Look (Some (Record f upto)) clock → IsPiece u w r owner ts ds
  piece_records f upto clock look =
      piece_later u v w r owner ts ds ds a (moves_came v w Clock Load kinds.Look (Some (Record f upto)) clock look)
      (serves_step u v w r ds Clock Load kinds.Look (Some (Record f upto)) clock a.serves look tt)

  -- a frame goes into the own first old word
  pub piece_names : (word : ℕ) → Moves v w (old_place v.post.vcpu First) (Store word) kinds.Context None 0 → IsPiece u w r owner ts ds
  piece_names word store = piece_later u v w r owner ts ds ds a (moves_came v w _ _ _ _ 0 store) (old_serves u v w r ds a.serves word store)

module _ {u v : PortValue} (w : PortValue) {r : Request} {owner : ℕ} {t : TableWork} {ts : List TableWork} {ds : List Deed} (a : IsPiece u v r owner (t ∷ ts) ds) where
  pub top_asked : (F : Finding) → ((m : Moment) → Met u v m → F m) → IsAsked u.post.machine u.post.vcpu r F t.frame
  top_asked F more = of r.owner (Some (level_type t.level)) (asked_later u.post.machine u.post.vcpu r (Met u v) F more (t ∷ ts) a.asked).0

  -- the reference to the innermost table is given back
  pub piece_back : Serves v w (of_back t.frame) [] → IsPiece u w r owner (t ∷ ts) ds
  piece_back put =
      let came = serves_came v w (of_back t.frame) [] put in
      piece_later u v w r owner (t ∷ ts) ds ds a came (serves_back u v w r ds [] a.serves t.frame (top_asked (Met u w) (λ m x. met_before u v w m x came)) put)

-- a word of its type is left in the innermost table's place
module _ {b v : PortValue} {whose : ℕ} {t : TableWork} {us : List TableWork} (s : Carries b v whose (t ∷ us)) (l : KindWord) (spelled : IsTrue (is_kind l)) (typed : l.kind ≡ level_type t.level) {w : PortValue} {found : ℕ} (store : Moves v w (Kind t.frame) (Store (kind_write l)) kinds.Kind None found) where
  keeps : IsTrue (keeps_type found (kind_write l))
  keeps =
      let e = top s in
      let word : found ≡ e.work.word = work_word v.post.machine v.post.vcpu v.holdings t.frame found e.work store.finds (top_here s) in
      kept_type found (kind_write l) (kind_fields e.work.word) l (ap (λ y. kind_fields y) word) (fields_write l spelled) (typed ∙ sym e.is.kind) (work_alive (kind_fields e.work.word) e.is.work)

  pub piece_left : (u : PortValue) (r : Request) (owner : ℕ) (ts : List TableWork) (ds : List Deed) → IsPiece u v r owner (t ∷ ts) ds → IsPiece u w r owner (t ∷ ts) ds
  piece_left u r owner ts ds a =
      let came = moves_came v w (Kind t.frame) (Store (kind_write l)) kinds.Kind None found store in
      piece_later u v w r owner (t ∷ ts) ds ds a came
      (serves_step u v w r ds (Kind t.frame) (Store (kind_write l)) kinds.Kind None found a.serves store (top_asked w a (Met u w) (λ m x. met_before u v w m x came), keeps))

-- ---- steps behind steps
pub goes_nothing : (v : PortValue) (owner : ℕ) (ts : List TableWork) → CarriesOn v v owner ts ts []
unfolding CarriesOn
goes_nothing v owner ts u r ds a = a

pub goes_then : (v x w : PortValue) (owner : ℕ) (ts us rs : List TableWork) (ds es : List Deed) → CarriesOn v x owner ts us ds → CarriesOn x w owner us rs es → CarriesOn v w owner ts rs (es ++ ds)
unfolding CarriesOn
goes_then v x w owner ts us rs ds es first second u r fs a =
    subst (λ gs. IsPiece u w r owner rs gs) (sym (append_assoc es ds fs)) (second u r (ds ++ fs) (first u r fs a))

-- ---- frames that are left
-- no exchange is lost
pub marked_none : (u w : PortValue) (r : Request) (owner : ℕ) (kept : Bool) (f : ℕ) (ds : List Deed) → Serves u w r ds → ServesMarked u w r owner kept f ds
marked_none u w r owner kept f ds serves = record { more = []; hidden = inl refl; serves = serves }

-- as a `kept` mark is left
kept_hidden : (u : PortValue) (owner : ℕ) (kept : Bool) (f : ℕ) (ds : List Deed) → kept ≡ true → (ds ≡ []) ⊎ (IsForeign u owner × (ds ≡ Misses (Kind f) ∷ [])) → (ds ≡ []) ⊎ (IsForeign u owner × (kept ≡ true) × (ds ≡ Misses (Kind f) ∷ []))
kept_hidden u owner kept f ds on (inl none) = inl none
kept_hidden u owner kept f ds on (inr one) = inr (one.0, on, one.1)

pub marked_kept : (u w : PortValue) (r : Request) (owner : ℕ) (kept : Bool) (f : ℕ) (ds : List Deed) → kept ≡ true → ServesMark u w r f owner ds → ServesMarked u w r owner kept f ds
marked_kept u w r owner kept f ds on a = record { more = a.more; hidden = kept_hidden u owner kept f a.more on a.hidden; serves = a.serves }

-- a frame that waits is left so that its type is served
pub type_left : (u x w : PortValue) (r : Request) (ds : List Deed) (f owner level : ℕ) → Serves u x r ds → Asked u.post.machine u.post.vcpu r (Met u x) f owner (Some (level_type level)) → ServesType x w f (level_type level) → Serves u w r ds
type_left u x w r ds f owner level before asks types =
    let left = left_serves x w f owner (level_type level) types in
    serves_call u x w r ds [] before f owner (Some (level_type level)) asks (serves_came x w (of_frame f owner (Some (level_type level))) [] left) left

pub left_behind : (v x w : PortValue) (owner : ℕ) (kept : Bool) (f : ℕ) (ts us : List TableWork) (ds es : List Deed) → Came v x → CarriesOn v x owner ts us ds → ServesLeft x w owner kept f us es → ServesLeft v w owner kept f ts (es ++ ds)
unfolding CarriesOn ServesLeft
left_behind v x w owner kept f ts us ds es came first second u r fs a locks =
    subst (λ gs. ServesMarked u w r owner kept f gs) (sym (append_assoc es ds fs)) (second u r (ds ++ fs) (first u r fs a) (λ off. locks (foreign_still v x owner came off)))

-- all tables are left so that the steps go on
pub left_on : (v w : PortValue) (owner : ℕ) (kept : Bool) (f : ℕ) (ts us : List TableWork) (es : List Deed) → CarriesOn v w owner ts us es → ServesLeft v w owner kept f ts es
unfolding CarriesOn ServesLeft
left_on v w owner kept f ts us es goes u r ds a locks = marked_none u w r owner kept f (es ++ ds) (goes u r ds a).serves

-- The steps at an entry of the innermost table go on with a call that asked the tables in work, and show why it stops.
-- ---- behind a piece, a call on the entries of the tables in the own works
module _ {u v : PortValue} (w : PortValue) {r : Request} {owner : ℕ} {ts : List TableWork} {ds : List Deed} (a : IsPiece u v r owner ts ds) where
  entries_in : Within u.post.machine u.post.vcpu (of_entries owner r.pages_of) (Met v w) r (Met u w)
  entries_in = within_entries u.post.machine u.post.vcpu owner r (Met v w) (Met u w) (λ m x. met_after u v w m (serves_came u v r ds a.serves) x) a.entries a.whose

  pub piece_entries : (es : List Deed) → Serves v w (of_entries owner r.pages_of) es → IsPiece u w r owner ts (es ++ ds)
  piece_entries es b =
      piece_later u v w r owner ts ds (es ++ ds) a (serves_came v w (of_entries owner r.pages_of) es b) (serves_inner u v w r (of_entries owner r.pages_of) ds es entries_in a.serves b)

  pub entries_stop : (e : Stop) → NoMore r v.holdings u.holdings → Stops v w (of_entries owner r.pages_of) e → Stops u w r e
  entries_stop e more stops = stops_inner u v w r (of_entries owner r.pages_of) e entries_in more (serves_came u v r ds a.serves) stops

  -- what an entry asks there is asked of the whole call
  pub entries_ask : (k : PageType) (f : ℕ) → AsksBelow v w owner r.pages_of k f → Asked u.post.machine u.post.vcpu r (Met u w) f owner (Some (below k))
  entries_ask k f asks =
      entries_in.asked f owner (Some (below k))
      (subst (λ (p : Post). Asked p.machine p.vcpu (of_entries owner r.pages_of) (Met v w) f owner (Some (below k))) (came_post u v (serves_came u v r ds a.serves)) asks)

-- ---- the same of any piece
module _ (v w : PortValue) (owner : ℕ) (ts : List TableWork) where
  pub goes_entries : (es : List Deed) → ((pages : ℕ) → Serves v w (of_entries owner pages) es) → CarriesOn v w owner ts ts es
  unfolding CarriesOn
  goes_entries es serves u r ds a = piece_entries w a es (serves r.pages_of)

  -- one entry more of the innermost table is done with
  pub goes_advanced : (us : List TableWork) (es : List Deed) → CarriesOn v w owner ts us es → CarriesOn v w owner ts (advanced us) es
  unfolding CarriesOn
  goes_advanced us es goes u r ds a =
      let b = goes u r ds a in
      record { entries = b.entries; whose = b.whose; serves = b.serves; asked = asked_advanced u.post.machine u.post.vcpu r (Met u w) us b.asked }

  -- or of the one around it
  pub goes_inner : (t : TableWork) (us : List TableWork) (es : List Deed) → CarriesOn v w owner ts (t ∷ us) es → CarriesOn v w owner ts (t ∷ advanced us) es
  unfolding CarriesOn
  goes_inner t us es goes u r ds a =
      let b = goes u r ds a in
      record { entries = b.entries; whose = b.whose; serves = b.serves; asked = (b.asked.0, asked_advanced u.post.machine u.post.vcpu r (Met u w) us b.asked.1) }

  -- ---- a frame that the entry asks for the type below
  module _ (k : PageType) (g : ℕ) (serves : (pages : ℕ) → Serves v w (of_entries owner pages) []) (asks : (pages : ℕ) → AsksBelow v w owner pages k g) where
    asked_below : (u : PortValue) (r : Request) (ds : List Deed) → IsPiece u v r owner ts ds → Asked u.post.machine u.post.vcpu r (Met u w) g owner (Some (below k))
    asked_below u r ds a = entries_ask w a k g (asks r.pages_of)

    -- it is a table that comes into work
    pub goes_opened : (t : TableWork) → t.frame ≡ g → below k ≡ level_type t.level → CarriesOn v w owner ts (t ∷ ts) []
    unfolding CarriesOn
    goes_opened t frame type u r ds a =
        let b = piece_entries w a [] (serves r.pages_of) in
        let n = u.post.machine in
        let s = u.post.vcpu in
        record {
          entries = b.entries;
          whose = b.whose;
          serves = b.serves;
          asked = (
            subst (λ o. Asked n s r (Met u w) t.frame o (Some (level_type t.level))) (sym a.whose)
                (subst (λ y. Asked n s r (Met u w) t.frame owner (Some y)) type (subst (λ f. Asked n s r (Met u w) f owner (Some (below k))) (sym frame) (asked_below u r ds a))),
            b.asked,
          );
        }

    -- it is given back
    pub goes_back : (x : PortValue) → Serves w x (of_back g) [] → CarriesOn v x owner ts ts []
    unfolding CarriesOn
    goes_back x put u r ds a =
        let b = piece_entries w a [] (serves r.pages_of) in
        let came = serves_came w x (of_back g) [] put in
        let n = u.post.machine in
        let s = u.post.vcpu in
        let still = (same_request n s r (Met u w) (Met u x) (λ m y. met_before u w x m y came)).asked g owner (Some (below k)) (asked_below u r ds a) in
        piece_later u w x r owner ts ds ds b came (serves_back u w x r ds [] b.serves g (of owner (Some (below k)) still) put)

    -- it is left as it was found
    pub goes_left : (x : PortValue) → ServesType w x g (below k) → CarriesOn v x owner ts ts []
    unfolding CarriesOn
    goes_left x types u r ds a =
        let left = types w owner [] (serves_nothing w (of_frame g owner (Some (below k)))) in
        let b = piece_entries w a [] (serves r.pages_of) in
        let came = serves_came w x (of_frame g owner (Some (below k))) [] left in
        piece_later u w x r owner ts ds ds b came (serves_call u w x r ds [] b.serves g owner (Some (below k)) (asked_below u r ds a) came left)

-- ---- what is in hand of a frame that is not in work
ref_aside : (own : Bool) (owner f : ℕ) (t : TableWork) (rs : List Reference) → (t.frame ≡ f → ⊥) → refs_to f (if own then rs else (record { frame = t.frame; owner = owners.Of owner } ∷ rs)) ≡ refs_to f rs
ref_aside true owner f t rs other = refl
ref_aside false owner f t rs other = times_by-cons_other (λ (y : Reference). y.frame) f (record { frame = t.frame; owner = owners.Of owner }) rs other

refs_kept : (z : Sizes) (steps : List Made) (inner : Option TableWork) (owner f : ℕ) (ts : List TableWork) (es : List Work) (rs : List Reference) → AreTables z steps inner ts es → work_on f es ≡ None →
    refs_to f (refs_for owner ts rs) ≡ refs_to f rs
refs_kept z steps inner owner f [] es rs are none = refl
refs_kept z steps inner owner f (t ∷ ts) [] rs are none = absurd are
refs_kept z steps inner owner f (t ∷ ts) (e ∷ es) rs are none =
    let apart = apart_first f e es none in
    ref_aside t.own owner f t (refs_for owner ts rs) (λ same. apart.0 (are.0.frame ∙ same)) ∙ refs_kept z steps (Some t) owner f ts es rs are.2 apart.1

-- Where tables came into work, nothing more of any other frame is in hand.
pub carries_more : (u v : PortValue) (owner : ℕ) (ts : List TableWork) (r : Request) → Carries u v owner ts → r.entries ≡ true → NoMore r v.holdings u.holdings
unfolding first_by
carries_more u v owner ts r s entries f =
    record {
      refs = λ away.
          let same = ap (λ xs. refs_to f xs) s.refs ∙ refs_kept (sizes_of u.post.machine) v.holdings.steps None owner f ts v.holdings.works u.holdings.refs s.tables (away entries) in
          omega (arith, same);
      works = λ none. ap (λ xs. work_on f xs) s.idle.works;
      typed = λ off. absurd (let on = entries in let not_on = off in cc);
    }

-- ---- why it stops
-- behind a piece in which these tables came into work, and for which the gate said yes where that is why, the steps show why it stops
unfoldable pub StopsRisen : PortValue → PortValue → ℕ → List TableWork → Stop → Type 0
StopsRisen v w owner ts e =
    (u : PortValue) (r : Request) (ds : List Deed) → (is_due_stop e ≡ true → r.rose ≡ true) → Carries u v owner ts → IsPiece u v r owner ts ds → Stops u w r e

module _ (v w : PortValue) (owner : ℕ) (ts : List TableWork) (e : Stop) where
  pub stops_entries : ((pages : ℕ) → Stops v w (of_entries owner pages) e) → StopsRisen v w owner ts e
  unfolding StopsRisen
  stops_entries stops u r ds rose s a = entries_stop w a e (carries_more u v owner ts r s a.entries) (stops r.pages_of)

  -- more steps behind
  pub stops_on : (x : PortValue) → Came w x → StopsRisen v w owner ts e → StopsRisen v x owner ts e
  unfolding StopsRisen
  stops_on x came stops u r ds rose s a = stops_before u w x r e (stops u r ds rose s a) came

-- or before
pub stops_behind : {A : Type 0} (x v w : PortValue) (owner : ℕ) (us ts : List TableWork) (r : Result A Stop) → StandsOn x v owner us ts → CarriesOn x v owner us ts [] → IfErr r (λ e. StopsRisen v w owner ts e) → IfErr r (λ e. StopsRisen x w owner us e)
unfolding StopsRisen CarriesOn
stops_behind x v w owner us ts (Ok done) stands goes stops = tt
stops_behind x v w owner us ts (Err e) stands goes stops = λ u r ds rose s a. stops u r ds rose (stands u s) (goes u r ds a)

-- the gate said yes, and something got on
pub stops_due : (v w : PortValue) (owner : ℕ) (ts : List TableWork) → Progress (Met v w) → StopsRisen v w owner ts (Paused Due)
unfolding StopsRisen Stops
stops_due v w owner ts gets_on u r ds rose s a = (rose refl, inl (progress_after u v w (serves_came u v r ds a.serves) gets_on))

-- a call behind steps that lost no exchange
pub goes_on : {A : Type 0} (v x w : PortValue) (owner : ℕ) (ts us rs : List TableWork) (r : Result A Stop) → Came v x → CarriesOn v x owner ts us [] → CarriesOn x w owner us rs (misses x.post.machine r) →
    CarriesOn v w owner ts rs (misses v.post.machine r)
goes_on v x w owner ts us rs r came first second =
    subst (λ (p : Post). CarriesOn v w owner ts rs (misses p.machine r)) (came_post v x came)
    (subst (λ ds. CarriesOn v w owner ts rs ds) (append-nil (misses x.post.machine r)) (goes_then v x w owner ts us rs [] (misses x.post.machine r) first second))

pub goes_waiting : (v w : PortValue) (owner : ℕ) (ts us : List TableWork) (e : Stop) → IsWait e → CarriesOn v w owner ts us [] → CarriesOn v w owner ts us (missed v.post.machine e)
goes_waiting v w owner ts us e is goes = subst (λ ds. CarriesOn v w owner ts us ds) (sym (none_missed v.post.machine e is)) goes
