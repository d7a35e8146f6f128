-- A descriptor is stored under the reference in hand: the frame is taken, the word stored, and the type given back.
use Rattle.std.proofs.Common.{◌≡◌, ◌⊎◌, ℕ, ◌&&◌, ◌++◌, if◌then◌else◌, Bool, true, false, List, [], ◌∷◌, Option, Some, None, Result, Ok, Err, refl, sym, ap, ◌∙◌, subst, inl, inr, append-nil, arith}
use Rattle.xp_words.specs.Entries.{fixed}
use Rattle.xp_words.specs.KindWords.{kind_fields, kind_read}
use Rattle.xp_words.specs.declared.kind.KindWord.{KindWord}
use Rattle.xp_words.specs.declared.kind.PageType.{PageType}
use Rattle.xp_words.specs.declared.kind.PageType.TheVariants.{Desc, Writable}
use Rattle.xp_words.specs.declared.place.Place.TheVariants.{Cell, Kind}
use Rattle.xp_words.specs.declared.reply.Refusal.{Refusal}
use Rattle.xp_words.specs.declared.reply.Stop.{Stop}
use Rattle.xp_board.specs.declared.holdings.Claimed.{Claimed}
use Rattle.xp_board.specs.declared.holdings.Lock.{Lock}
use Rattle.xp_board.specs.declared.holdings.OwnerFound.TheVariants as owners
use Rattle.xp_board.specs.declared.holdings.TypedReference.{TypedReference}
use Rattle.xp_board.specs.declared.holdings.Work.{Work}
use Rattle.xp_board.specs.declared.step.Act.TheVariants.{Load, Store}
use Rattle.xp_board.specs.declared.step.StepKind.TheVariants as kinds
use Rattle.xp_board.specs.KindSteps.{live_typed}
use Rattle.xp_board.specs.Readings.{is_live, is_type}
use Rattle.xp_board.specs.Told.{Post, PortValue}
use Rattle.xp_board.proofs.Sums.{when_eq}
use Rattle.step_maker.specs.Holds.{FlushedHolds, Holds, Same, quiet}
use Rattle.step_maker.specs.Moves.{Came, Met, Moves}
use Rattle.step_maker.proofs.Coming.{came_post, came_trans, met_after, moves_came}
use Rattle.step_maker.specs.Answers.{Deed, Serves, Writes, missed}
use Rattle.step_maker.specs.Asked.{IsAsked, Request, Within, named, of, of_back, of_table}
use Rattle.step_maker.proofs.Later.{stops_later}
use Rattle.step_maker.proofs.Piecing.{serves_back, serves_came, serves_inner, serves_nothing, serves_step}
use Rattle.step_maker.proofs.Resting.{none_on}
use Rattle.frame_words.specs.Cells.{IsApart, MayStoreCell}
use Rattle.frame_words.specs.Freeing.{gave}
use Rattle.frame_words.proofs.CellSteps.{newest_held, newest_live, writes_live}
use Rattle.frame_words.proofs.Putting.{without_newest}
use Rattle.frame_types.specs.Taking.{MayDropPlain, gave_type, typed_as}
use Rattle.table_entries.specs.Acquiring.{GaveType}
use Rattle.desc_pages.specs.Descriptors.{HoldsLent, IsDescriptorType, PutsUnder, TakesAs, descriptor_type, of_cell, stored, untaken}
use Rattle.desc_pages.proofs.Getting.{taken_uncounted}
use Rattle.desc_pages.specs.Pages.{IsShort}
use Rattle.desc_pages.proofs.Short.{moved_once, vcpus}
use Rattle.desc_pages.proofs.ShortCells.{as_short}
use Rattle.desc_pages.proofs.ShortLists.{dropped_short}
use Rattle.desc_pages.proofs.Typing.{no_table, one_type}
use Rattle.desc_pages.proofs.Within.{within_cell}
use Rattle.writable_pages.proofs.Shared.{store_deed}

-- ---- the word that was found
fields_by : (b : Bool) (k l : KindWord) → (if b then Some k else None) ≡ Some l → l ≡ k
fields_by true k l is = cc
fields_by false k l is = absurd cc

pub fields_are : (w : ℕ) (k : KindWord) → kind_read w ≡ Some k → k ≡ kind_fields w
unfolding kind_read
fields_are w k is = fields_by _ (kind_fields w) k is

pub type_is : (w : ℕ) (k : KindWord) (b : Bool) → kind_read w ≡ Some k → (is_live k && is_type k.kind Desc) ≡ b → (if b then Desc else Writable) ≡ descriptor_type w
type_is w k b read is = ap (λ c. if c then Desc else Writable) (sym is ∙ ap (λ j. is_live j && is_type j.kind Desc) (fields_are w k read))

-- ---- the frame is in none of the own lists

-- ---- a fixed word may stand in both
ordinary_by : (new : ℕ) (want : PageType) → IsDescriptorType want → fixed new ≡ Some new → (want ≡ Writable) ⊎ ((want ≡ Desc) × (fixed new ≡ Some new))
ordinary_by new want (inl is) ok = inr (is, ok)
ordinary_by new want (inr is) ok = inl is

-- ---- behind the look
module _ (v x : PortValue) (f owner found : ℕ) (look : Moves v x (Kind f) Load kinds.Look None found) (same : Same v x) (holds : HoldsLent v f owner) where
  abbrev want : PageType
  want = descriptor_type found

  came_x : Came v x
  came_x = moves_came v x (Kind f) Load kinds.Look None found look

  looked_serves : (r : Request) → Serves v x r []
  looked_serves r = serves_step v v x r [] (Kind f) Load kinds.Look None found (serves_nothing v r) look tt

  module _ (i word : ℕ) (by : Option Refusal) where
    abbrev r : Request
    r = of_cell owner f i word want by

    taking_within : (w : PortValue) → Within v.post.machine v.post.vcpu (of_table f owner (Some want) owner false) (Met x w) r (Met v w)
    taking_within w = within_cell v.post.machine v.post.vcpu f owner i word want by (Met x w) (Met v w) (λ m y. met_after v x w m came_x y)

    taking_serves : (w : PortValue) (ds : List Deed) → Serves x w (of_table f owner (Some want) owner false) ds → Serves v w r ds
    taking_serves w ds a = subst (λ es. Serves v w r es) (append-nil ds) (serves_inner v x w r (of_table f owner (Some want) owner false) [] ds (taking_within w) (looked_serves r) a)

    cell_asked : (w : PortValue) → IsAsked v.post.machine v.post.vcpu r (Met v w) f
    cell_asked w = of owner (Some want) (named (when_eq f f refl) refl refl)

  -- ---- how many steps there are
  same_vcpus : vcpus x.post ≡ vcpus v.post
  same_vcpus = ap vcpus (came_post v x came_x)

  untaken_short : (w : PortValue) (e : Stop) → TakesAs x w f owner want (Err e) → IsShort v w 1050
  untaken_short w e t =
      let first = moved_once v x _ _ _ found look in
      let last = as_short x w f owner want (Err e) t.course in
      let alike = same_vcpus in
      omega (arith, first, last, alike)

  -- ---- the frame is not to be had
  pub untaken_puts : (w : PortValue) (i new : ℕ) (e : Stop) {answer : Result (Unit {0}) Stop} → answer ≡ Err e → TakesAs x w f owner want (Err e) → PutsUnder v w f owner i new answer
  untaken_puts w i new e is t =
      rw is
      (record {
        want = want;
        came = came_trans v x w came_x t.came;
        serves = λ word by. subst (λ (p : Post). Serves v w (of_cell owner f i word want by) (missed p.machine e)) (came_post v x came_x) (taking_serves i word by w (missed x.post.machine e) t.serves);
        stops = λ word by. stops_later v x w (of_cell owner f i word want by) (of_table f owner (Some want) owner false) e (taken_uncounted e t.kinds) (taking_within i word by w) came_x t.stops;
        kinds = t.kinds;
        hand = t.hand ∙ ap (λ (q : PortValue). quiet (record q { holdings = gave f q.holdings })) same;
        course = untaken x found e look refl t.course;
        short = untaken_short w e t;
      })

  -- ---- it is: the newest typed reference keeps it live
  module _ (y : PortValue) (t : TakesAs x y f owner want (Ok tt)) where
    whole : FlushedHolds v y (typed_as f owner want v.holdings)
    whole = t.hand ∙ ap (λ (q : PortValue). quiet (record q { holdings = typed_as f owner want q.holdings })) same

    newest : y.holdings.typed ≡ live_typed f want (owners.Of owner) ∷ []
    newest = ap (λ (q : PortValue). q.holdings.typed) whole ∙ ap (λ ts. live_typed f want (owners.Of owner) ∷ ts) holds.typed

    pub apart_there : IsApart f y.holdings
    apart_there =
        record {
          works = none_on (λ (e : Work). e.frame) f y.holdings.works (ap (λ (q : PortValue). q.holdings.works) whole ∙ holds.works);
          locks = none_on (λ (e : Lock). e.frame) f y.holdings.locks (ap (λ (q : PortValue). q.holdings.locks) whole ∙ holds.locks);
          claimed = none_on (λ (e : Claimed). e.frame) f y.holdings.claimed (ap (λ (q : PortValue). q.holdings.claimed) whole ∙ holds.claimed);
        }

    pub may_store : (new : ℕ) → fixed new ≡ Some new → MayStoreCell y.post.machine f new y.holdings
    may_store new ok = writes_live y f want (owners.Of owner) [] newest new (ordinary_by new want (one_type found) ok) apart_there

    module _ (z : PortValue) (i new old : ℕ) (store : Moves y z (Cell f i) (Store new) kinds.Cell None old) (kept : Same y z) where
      newest_z : z.holdings.typed ≡ live_typed f want (owners.Of owner) ∷ []
      newest_z = ap (λ (q : PortValue). q.holdings.typed) kept ∙ newest

      pub may_drop_there : MayDropPlain z.post.machine f want z.holdings
      may_drop_there =
          record {
            held = newest_held z f want (owners.Of owner) [] newest_z;
            live = newest_live z f want (owners.Of owner) [] newest_z;
            plain = no_table want (one_type found);
            apart = none_on (λ (e : Work). e.frame) f z.holdings.works (ap (λ (q : PortValue). q.holdings.works) kept ∙ (ap (λ (q : PortValue). q.holdings.works) whole ∙ holds.works));
          }

      module _ (w : PortValue) (back : Serves z w (of_back f) []) (gives : Holds z w (gave_type f z.holdings)) (drops : GaveType z w f want) where
        gone : FlushedHolds v w (gave f v.holdings)
        gone =
            ap quiet gives ∙ ap (λ (q : PortValue). quiet (record q { holdings = gave_type f q.holdings })) (ap quiet kept ∙ whole)
            ∙ ap (λ (ts : List TypedReference). quiet (record v { holdings = record (gave f v.holdings) { typed = ts } }))
            (without_newest (λ (e : TypedReference). e.frame) f (live_typed f want (owners.Of owner)) v.holdings.typed refl)

        stored_serves : (word : ℕ) (by : Option Refusal) → Serves v w (of_cell owner f i word want by) (Writes f i new ∷ [])
        stored_serves word by =
            let q = of_cell owner f i word want by in
            let done = serves_step v y z q [] (Cell f i) (Store new) kinds.Cell None old (taking_serves i word by y [] t.serves) store (cell_asked i word by z) in
            serves_back v z w q (Writes f i new ∷ []) [] (subst (λ (ds : List Deed). Serves v z q (ds ++ [])) (store_deed f i new old y.holdings apart_there) done) f (cell_asked i word by w) back

        stored_short : IsShort v w 1050
        stored_short =
            let first = moved_once v x _ _ _ found look in
            let next = as_short x y f owner want (Ok tt) t.course in
            let step = moved_once y z _ _ _ old store in
            let last = dropped_short z w f want drops.found in
            let alike = same_vcpus in
            omega (arith, first, next, step, last, alike)

        pub stored_puts : PutsUnder v w f owner i new (Ok tt)
        stored_puts =
            record {
              want = want;
              came = came_trans v x w came_x (came_trans x y w t.came (came_trans y z w (moves_came y z (Cell f i) (Store new) kinds.Cell None old store) (serves_came z w (of_back f) [] back)));
              serves = stored_serves;
              stops = λ word by. tt;
              kinds = tt;
              hand = gone;
              course = stored x y z found old look refl t.course store drops;
              short = stored_short;
            }

-- ---- the same, with another name of the type
module _ (v x : PortValue) (f owner found : ℕ) (look : Moves v x (Kind f) Load kinds.Look None found) (same : Same v x) (holds : HoldsLent v f owner) (want : PageType) (is : want ≡ descriptor_type found) where
  pub untaken_as : (w : PortValue) (i new : ℕ) (e : Stop) {answer : Result (Unit {0}) Stop} → answer ≡ Err e → TakesAs x w f owner want (Err e) → PutsUnder v w f owner i new answer
  untaken_as w i new e err t = untaken_puts v x f owner found look same holds w i new e err (subst (λ k. TakesAs x w f owner k (Err e)) is t)

  module _ (y : PortValue) (t : TakesAs x y f owner want (Ok tt)) where
    taken : TakesAs x y f owner (descriptor_type found) (Ok tt)
    taken = subst (λ k. TakesAs x y f owner k (Ok tt)) is t

    pub may_store_as : (new : ℕ) → fixed new ≡ Some new → MayStoreCell y.post.machine f new y.holdings
    may_store_as new ok = may_store v x f owner found look same holds y taken new ok

    module _ (z : PortValue) (i new old : ℕ) (store : Moves y z (Cell f i) (Store new) kinds.Cell None old) (kept : Same y z) where
      pub may_drop_as : MayDropPlain z.post.machine f want z.holdings
      may_drop_as = subst (λ k. MayDropPlain z.post.machine f k z.holdings) (sym is) (may_drop_there v x f owner found look same holds y taken z i new old store kept)

      pub stored_as : (w : PortValue) → Serves z w (of_back f) [] → Holds z w (gave_type f z.holdings) → GaveType z w f want → PutsUnder v w f owner i new (Ok tt)
      stored_as w back gives drops = stored_puts v x f owner found look same holds y taken z i new old store kept w back gives (subst (λ k. GaveType z w f k) is drops)
