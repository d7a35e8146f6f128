-- One descriptor is written, or not: put together.
use Rattle.std.proofs.Common.{◌≡◌, ℕ, ◌%◌, true, List, [], Some, None, Result, Ok, Err, IfErr, refl, sym, ap, ◌∙◌, subst, inl, inr, append-nil, arith}
use Rattle.std.proofs.lemmas.Bool.Decides.{nat_tests}
use Rattle.xp_words.specs.Entries.{fixed}
use Rattle.xp_words.specs.declared.kind.PageType.{PageType}
use Rattle.xp_words.specs.declared.kind.PageType.TheVariants.{Writable}
use Rattle.xp_words.specs.declared.reply.Refusal.{Refusal}
use Rattle.xp_words.specs.declared.reply.Refusal.TheVariants as refusals
use Rattle.xp_words.specs.declared.reply.Stop.{Stop}
use Rattle.xp_words.specs.declared.reply.Stop.TheVariants.{Refused}
use Rattle.xp_board.specs.declared.holdings.OwnerFound.TheVariants as owners
use Rattle.xp_board.specs.declared.holdings.Reference.{Reference}
use Rattle.xp_board.specs.Told.{Post, PortValue, is_telling, told_word}
use Rattle.xp_board.proofs.Sums.{when_eq}
use Rattle.step_maker.specs.Holds.{FlushedSame, Holds, Rests, Same, quiet}
use Rattle.step_maker.specs.Moves.{Came, Met}
use Rattle.step_maker.specs.Plain.{Leaves}
use Rattle.step_maker.proofs.Coming.{came_post, came_self, came_trans}
use Rattle.step_maker.specs.Answers.{Deed, Serves, Stops, missed}
use Rattle.step_maker.specs.Asked.{Request, Within, named, of, of_back, of_frame}
use Rattle.step_maker.proofs.Later.{stops_then}
use Rattle.step_maker.proofs.Piecing.{serves_back, serves_came, serves_nothing, serves_then, serves_within, stops_within, within_frame}
use Rattle.step_maker.proofs.Resting.{still_rests}
use Rattle.frame_words.specs.Freeing.{Puts, gave}
use Rattle.frame_words.specs.Plain.{TwinGet, put}
use Rattle.frame_words.specs.Refs.{Gets, IsRefStop, took}
use Rattle.frame_words.proofs.Putting.{without_newest}
use Rattle.table_entries.specs.Acquiring.{GaveRef, GotRef}
use Rattle.desc_pages.specs.Descriptors.{DescriptorUpdated, HoldsLent, IsDescriptorStop, PutsUnder, StoredUnder, barred, cell_deeds, descriptor_deeds, descriptor_refusal, frame_at, index_at, of_cell, of_descriptor, referred, unfixed, unreferred, writes_fixed}
use Rattle.desc_pages.specs.Names.{own_domain}
use Rattle.desc_pages.specs.Pages.{IsDescStop, IsTakenStop}
use Rattle.desc_pages.proofs.Getting.{ref_kind, taken_kind, taken_uncounted}
use Rattle.desc_pages.proofs.Short.{gave_short, got_most, vcpus}

-- ---- by its numbers
pub bad_address : (address : ℕ) → (address % 8 ≡ 0 → ⊥) → descriptor_refusal address ≡ Some refusals.BadRange
bad_address address off = grind (arith, nat_tests)

pub good_address : (address : ℕ) → address % 8 ≡ 0 → descriptor_refusal address ≡ None
good_address address is = grind (arith, nat_tests)

some_same : {x y : Refusal} → Some x ≡ Some y → x ≡ y
some_same is = cc

pub barred_updates : (v : PortValue) (address word : ℕ) → descriptor_refusal address ≡ Some refusals.BadRange → Rests v → DescriptorUpdated v v address word (Err (Refused refusals.BadRange))
unfolding Stops
barred_updates v address word is rests =
    record {
      want = Writable;
      came = came_self v;
      serves = serves_nothing v (of_descriptor (own_domain v) address word Writable);
      stops = inl is;
      kinds = tt;
      numbers = λ x on. ap (λ y. Err (Refused y)) (some_same (sym is ∙ on));
      hand = refl;
      rests = rests;
      course = barred refusals.BadRange is;
      short = omega arith;
    }

descriptor_kind : (e : Stop) → IsDescStop e → IsDescriptorStop e
descriptor_kind (Refused refusals.BadRange) is = tt
descriptor_kind e is = is

-- ---- behind its numbers
module _ (v : PortValue) (address word : ℕ) (right : descriptor_refusal address ≡ None) (rests : Rests v) where
  abbrev d : ℕ
  d = own_domain v

  abbrev f : ℕ
  f = frame_at address

  abbrev i : ℕ
  i = index_at address

  no_number : (answer : Result (Unit {0}) Stop) (x : Refusal) → descriptor_refusal address ≡ Some x → answer ≡ Err (Refused x)
  no_number answer x on = absurd (let off = right in cc)

  module _ (want : PageType) where
    abbrev r : Request
    r = of_descriptor d address word want

    ref_within : (w : PortValue) → Within v.post.machine v.post.vcpu (of_frame f d None) (Met v w) r (Met v w)
    ref_within w = within_frame v.post.machine v.post.vcpu f d None r (Met v w) (Met v w) (λ m x. x) (named (when_eq f f refl) refl tt)

    first_serves : (w : PortValue) (ds : List Deed) → Serves v w (of_frame f d None) ds → Serves v w r ds
    first_serves w ds a = serves_within v w (of_frame f d None) r ds (ref_within w) a

  -- ---- the reference is not to be had
  pub unreferred_updates : (w : PortValue) (owner : ℕ) (e : Stop) {answer : Result (Unit {0}) Stop} → answer ≡ Err e → owner ≡ d → Serves v w (of_frame f owner None) (missed v.post.machine e) → Same v w → IsRefStop e → GotRef v w f owner (Err e) →
      DescriptorUpdated v w address word answer
  unreferred_updates w owner e is own serves same kind got =
      let mine = subst (λ o. GotRef v w f o (Err e)) own got in
      rw is
      (record {
        want = Writable;
        came = serves_came v w (of_frame f owner None) (missed v.post.machine e) serves;
        serves = first_serves Writable w (missed v.post.machine e) (subst (λ o. Serves v w (of_frame f o None) (missed v.post.machine e)) own serves);
        stops = stops_within v w (of_frame f d None) (r Writable) e (ref_within Writable w) mine.stops;
        kinds = descriptor_kind e (ref_kind e kind);
        numbers = no_number (Err e);
        hand = ap quiet same;
        rests = still_rests v w rests (ap quiet same);
        course = unreferred w e right mine;
        short = (let few = got_most v w f d (Err e) mine in omega (arith, few));
      })

  -- ---- it is
  module _ (u : PortValue) (owner g : ℕ) (own : owner ≡ d) (at : g ≡ f) (gets : Serves v u (of_frame f owner None) []) (takes : Holds v u (took g owner v.holdings)) where
    came_u : Came v u
    came_u = serves_came v u (of_frame f owner None) [] gets

    first : (want : PageType) → Serves v u (r want) []
    first want = first_serves want u [] (subst (λ o. Serves v u (of_frame f o None) []) own gets)

    got_ref : Gets v u f owner (Ok g) → TwinGet v u f owner (Ok g) → GotRef v u f d (Ok f)
    got_ref found plain = subst (λ o. GotRef v u f o (Ok f)) own (subst (λ k. GotRef v u f owner (Ok k)) at (record { found = found; plain = plain; stops = tt }))

    pub holds_lent : HoldsLent u g owner
    holds_lent =
        record {
          lent = record { others = v.holdings.refs; refs = ap (λ (q : PortValue). q.holdings.refs) takes };
          typed = ap (λ (q : PortValue). q.holdings.typed) takes ∙ rests.empty.typed;
          works = ap (λ (q : PortValue). q.holdings.works) takes ∙ rests.empty.works;
          locks = ap (λ (q : PortValue). q.holdings.locks) takes ∙ rests.empty.locks;
          claimed = ap (λ (q : PortValue). q.holdings.claimed) takes ∙ rests.empty.claimed;
          looking = ap (λ (q : PortValue). q.holdings.looking) takes ∙ rests.empty.looking;
        }

    gave_again : FlushedSame v (record u { holdings = gave g u.holdings })
    gave_again =
        ap (λ (q : PortValue). quiet (record q { holdings = gave g q.holdings })) takes
        ∙ ap (λ (rs : List Reference). quiet (record v { holdings = record v.holdings { refs = rs } })) (without_newest (λ (e : Reference). e.frame) g (record { frame = g; owner = owners.Of owner }) v.holdings.refs refl)

    -- the descriptor has no fixed form
    module _ (w : PortValue) (none : fixed word ≡ None) (back : Serves u w (of_back g) []) (puts : Puts u w g) (hand : Holds u w (gave g u.holdings)) (plain : is_telling u ≡ true → Leaves w (put g (told_word u))) where
      bad_hand : FlushedSame v w
      bad_hand = ap quiet hand ∙ gave_again

      gave_there : GaveRef u w f
      gave_there = subst (λ k. GaveRef u w k) at (record { found = puts; plain = plain })

      bad_stops : Stops v w (r Writable) (Refused (refusals.BadDescriptor f i word))
      unfolding Stops
      bad_stops = (none, inr (when_eq f f refl, refl, refl))

      bad_updates : Gets v u f owner (Ok g) → TwinGet v u f owner (Ok g) → DescriptorUpdated v w address word (Err (Refused (refusals.BadDescriptor f i word)))
      bad_updates found twin =
          record {
            want = Writable;
            came = came_trans v u w came_u (serves_came u w (of_back g) [] back);
            serves = serves_back v u w (r Writable) [] [] (first Writable) f (of d None (named (when_eq f f refl) refl tt)) (subst (λ k. Serves u w (of_back k) []) at back);
            stops = bad_stops;
            kinds = tt;
            numbers = no_number (Err (Refused (refusals.BadDescriptor f i word)));
            hand = bad_hand;
            rests = still_rests v w rests bad_hand;
            course = unfixed u w right (got_ref found twin) none gave_there;
            short = (let first = got_most v u f d (Ok f) (got_ref found twin) in let last = gave_short u w f gave_there in omega (arith, first, last));
          }

      pub bad_as : Gets v u f owner (Ok g) → TwinGet v u f owner (Ok g) → DescriptorUpdated v w address word (Err (Refused (refusals.BadDescriptor g i word)))
      bad_as found twin = subst (λ k. DescriptorUpdated v w address word (Err (Refused (refusals.BadDescriptor k i word)))) (sym at) (bad_updates found twin)

    -- it has one
    module _ (w : PortValue) (new : ℕ) (some : fixed word ≡ Some new) (answer : Result (Unit {0}) Stop) (p : PutsUnder u w g owner i new answer) where
      put_hand : FlushedSame v w
      put_hand = p.hand ∙ gave_again

      deeds_are : (a : Result (Unit {0}) Stop) → cell_deeds u f i new a ≡ descriptor_deeds v address word a
      deeds_are (Ok done) = ap (λ o. writes_fixed f i o) (sym some)
      deeds_are (Err e) = ap (λ (q : Post). missed q.machine e) (came_post v u came_u)

      served : Serves u w (r p.want) (cell_deeds u f i new answer)
      served =
          subst (λ o. Serves u w (of_cell o f i word p.want (descriptor_refusal address)) (cell_deeds u f i new answer)) own
          (subst (λ k. Serves u w (of_cell owner k i word p.want (descriptor_refusal address)) (cell_deeds u k i new answer)) at (p.serves word (descriptor_refusal address)))

      stopped : (a : Result (Unit {0}) Stop) → IfErr a IsTakenStop → IfErr a (λ e. Stops u w (of_cell owner g i word p.want (descriptor_refusal address)) e) → IfErr a (λ e. Stops v w (r p.want) e)
      stopped (Ok done) kind stops = tt
      stopped (Err e) kind stops =
          stops_then v u w (r p.want) e (taken_uncounted e kind) came_u
          (subst (λ o. Stops u w (of_cell o f i word p.want (descriptor_refusal address)) e) own (subst (λ k. Stops u w (of_cell owner k i word p.want (descriptor_refusal address)) e) at stops))

      kinds_are : (a : Result (Unit {0}) Stop) → IfErr a IsTakenStop → IfErr a IsDescriptorStop
      kinds_are (Ok done) kind = tt
      kinds_are (Err e) kind = descriptor_kind e (taken_kind e kind)

      pub put_updates : Gets v u f owner (Ok g) → TwinGet v u f owner (Ok g) → DescriptorUpdated v w address word answer
      put_updates found twin =
          record {
            want = p.want;
            came = came_trans v u w came_u p.came;
            serves = subst (λ ds. Serves v w (r p.want) ds) (append-nil (cell_deeds u f i new answer) ∙ deeds_are answer) (serves_then v u w (r p.want) [] (cell_deeds u f i new answer) (first p.want) served);
            stops = stopped answer p.kinds (p.stops word (descriptor_refusal address));
            kinds = kinds_are answer p.kinds;
            numbers = no_number answer;
            hand = put_hand;
            rests = still_rests v w rests put_hand;
            course = referred u w new p.want answer right (got_ref found twin) some
                (subst (λ o. StoredUnder u f o i new p.want w answer) own (subst (λ k. StoredUnder u k owner i new p.want w answer) at p.course));
            short = (let first = got_most v u f d (Ok f) (got_ref found twin) in let last = p.short in let alike = ap vcpus (came_post v u came_u) in omega (arith, first, last, alike));
          }
