-- A live table whose typed reference is in hand is pinned: what the words found tell, the steps, and why it is not.
use Rattle.std.proofs.Common.{◌≡◌, ◌≢◌, ℕ, ◌<◌, ◌≤◌, Bool, true, false, List, [], ◌∷◌, ◌++◌, Some, None, Ok, Err, is_some, IsTrue, refl, sym, ap, ◌∙◌, subst, inl, inr}
use Rattle.xp_words.specs.KindWords.{is_kind, kind_fields, kind_read, kind_write}
use Rattle.xp_words.specs.Places.{number, sizes_of}
use Rattle.xp_words.specs.declared.kind.KindWord.{KindWord}
use Rattle.xp_words.specs.declared.place.Place.TheVariants.{Kind}
use Rattle.xp_words.specs.declared.reply.Pause.TheVariants.{Lost}
use Rattle.xp_words.specs.declared.reply.Refusal.TheVariants.{AlreadyPinned}
use Rattle.xp_words.specs.declared.reply.Stop.{Stop}
use Rattle.xp_words.specs.declared.reply.Stop.TheVariants.{Paused, Refused}
use Rattle.xp_board.specs.declared.holdings.Holdings.{Holdings}
use Rattle.xp_board.specs.declared.holdings.Looking.{Looking}
use Rattle.xp_board.specs.declared.holdings.OwnerFound.TheVariants as owners
use Rattle.xp_board.specs.declared.holdings.TypedReference.{TypedReference}
use Rattle.xp_board.specs.declared.step.Act.TheVariants.{Cas, Load}
use Rattle.xp_board.specs.declared.step.StepKind.TheVariants as kinds
use Rattle.xp_board.specs.Hands.{typed_on, without_typed}
use Rattle.xp_board.specs.Knowledge.{knows_owner}
use Rattle.xp_board.specs.KindSteps.{MayPin, live_typed}
use Rattle.xp_board.specs.Readings.{domain_of, is_live}
use Rattle.xp_board.specs.Spelling.{is_kind_in}
use Rattle.xp_board.specs.Told.{Post, PortValue}
use Rattle.xp_board.proofs.KindForms.{fields_of}
use Rattle.xp_board.proofs.ListCounts.{first_by-cons_here}
use Rattle.xp_board.proofs.Sums.{when_eq}
use Rattle.step_maker.specs.Holds.{Holds, Same, still}
use Rattle.step_maker.specs.Moves.{Came, Met, Moves}
use Rattle.step_maker.proofs.Coming.{came_post, came_self, came_trans, met_after, met_before, moment_of, moves_came, moves_met}
use Rattle.step_maker.specs.Answers.{Pins, Serves, Stops, deeds_by, missed, missed_at}
use Rattle.step_maker.specs.Asked.{Asked, IsAsked, Request, checked, named, of, of_back}
use Rattle.step_maker.specs.Finding.{Finding, FoundWith}
use Rattle.step_maker.specs.Reasons.{keeps_type}
use Rattle.step_maker.proofs.Piecing.{moves_serves, serves_back, serves_came}
use Rattle.step_maker.proofs.Resting.{bare, empty_as}
use Rattle.step_maker.proofs.Keeping.{kept_type as mark_keeps}
use Rattle.kind_words.proofs.KindFacts.{live_undead}
use Rattle.kind_words.specs.Kinds.{looked_at}
use Rattle.kind_words.proofs.KindFacts.{found_live, kind_found, kind_is_some, known_live, read_is}
use Rattle.kind_words.proofs.KindWriting.{fields_write}
use Rattle.partial_state.specs.Levels.{level_type}
use Rattle.partial_state.proofs.LevelFacts.{level_type-table}
use Rattle.table_words.specs.Pins.{gave_pin, pinned_kind}
use Rattle.table_words.proofs.PinWords.{pinned_is}
use Rattle.mmuext_ops.specs.Elements.{of_pin, raced_pin, told}
use Rattle.mmuext_ops.specs.Course.{SetsPin}
use Rattle.mmuext_ops.specs.Course as ends
use Rattle.mmuext_ops.specs.Holding.{GivesTableUp, GivesUp, HoldsTable, PinsLive, named_old, untyped_hand}
use Rattle.level_validate.specs.Unwinding.{own_domain}
use Rattle.level_release.proofs.Dropped.{held_typed, may_drop, none_typed}
use Rattle.mmuext_ops.proofs.GivingUp.{live_table}
use Rattle.mmuext_ops.proofs.Marking.{lost_deeds, lost_misses, lost_stops, pins_deed, tried}
use Rattle.table_entries.proofs.HandOwners.{known_by_typed}
use Rattle.table_entries.proofs.Shared.{no_looks as looks_none}

-- ---- the hand
-- a port that holds the same holds the table too
pub holds_still : (v w : PortValue) (f level : ℕ) → Holds v w v.holdings → HoldsTable v f level → HoldsTable w f level
holds_still v w f level same holds =
    record {
      typed = ap (λ (q : PortValue). q.holdings.typed) same ∙ holds.typed ∙ ap (λ (q : PortValue). live_typed f (level_type level) (owners.Of (own_domain q)) ∷ []) (sym same);
      others = empty_as (untyped_hand w.holdings) (untyped_hand v.holdings) (ap (λ (q : PortValue). bare (untyped_hand q.holdings)) same) holds.others;
    }

-- where the vCPU looks at no frame, an exchange ends no looking
pub looks_same : (f w : ℕ) (h : Holdings) → h.looking ≡ [] → looked_at f w h ≡ h
looks_same f w h none = ap (λ (xs : List Looking). record h { looking = xs }) (looks_none f w h.looking none)

pub owner_known : (v : PortValue) (f level : ℕ) → HoldsTable v f level → IsTrue (knows_owner (sizes_of v.post.machine) f (own_domain v) v.holdings)
owner_known v f level holds =
    let e : TypedReference = live_typed f (level_type level) (owners.Of (own_domain v)) in
    known_by_typed (sizes_of v.post.machine) f (own_domain v) v.holdings e (ap (λ ys. typed_on f ys) holds.typed ∙ first_by-cons_here (λ (y : TypedReference). y.frame) f e [] refl) refl

-- the reference went into the pin
pub pinned_hand : (v a b : PortValue) (f level : ℕ) (k : KindWord) → HoldsTable v f level → Same v a → Holds a b (gave_pin f k a.holdings) → Holds v b (untyped_hand v.holdings)
pinned_hand v a b f level k holds same pins =
    pins ∙ ap (λ (h : Holdings). still (record a { holdings = record h { typed = without_typed f h.typed } })) (looks_same f _ a.holdings (holds_still v a f level same holds).others.looking)
    ∙ ap (λ (ys : List TypedReference). still (record a { holdings = record a.holdings { typed = ys } })) (none_typed (live_table (holds_still v a f level same holds)))
    ∙ ap (λ (q : PortValue). still (record q { holdings = record q.holdings { typed = [] } })) same

-- another word was found
pub lost_hand : (a b : PortValue) (f level found : ℕ) → HoldsTable a f level → Holds a b (looked_at f found a.holdings) → Holds a b a.holdings
lost_hand a b f level found holds looks = looks ∙ ap (λ (h : Holdings). still (record a { holdings = h })) (looks_same f found a.holdings holds.others.looking)

pub gives_from : (v a w : PortValue) (f : ℕ) (kept : Bool) → Same v a → GivesTableUp a w f kept → GivesTableUp v w f kept
gives_from v a w f true same gone = gone ∙ ap (λ (q : PortValue). still (record q { holdings = untyped_hand q.holdings })) same
gives_from v a w f false same (inl gone) = inl (gone ∙ ap (λ (q : PortValue). still (record q { holdings = untyped_hand q.holdings })) same)
gives_from v a w f false same (inr names) = inr (names ∙ ap (λ (q : PortValue). still (record q { holdings = named_old f (untyped_hand q.holdings) })) same)

-- ---- the word that the look found
module _ {v a : PortValue} {f level x : ℕ} (frame : f < v.post.machine.frames) (holds : HoldsTable v f level) (look : Moves v a (Kind f) Load kinds.Look None x) (same : Same v a) where
  pub read_some : IsTrue (is_some (kind_read x))
  read_some = kind_is_some v.post.machine v.post.vcpu v.holdings f x frame look.finds

  pub holds_a : HoldsTable a f level
  holds_a = holds_still v a f level same holds

  came_a : Came v a
  came_a = moves_came v a (Kind f) Load kinds.Look None x look

  module _ {k : KindWord} (read : kind_read x ≡ Some k) where
    fields : kind_fields x ≡ k
    fields = fields_of x k read

    pub spelled : IsTrue (is_kind k)
    spelled = (read_is x k read).0

    pub written : kind_write k ≡ x
    written = sym (read_is x k read).1

    pub fits : IsTrue (is_kind_in a.post.machine (Some k))
    fits =
        let is = kind_found v.post.machine v.post.vcpu v.holdings f x frame look.finds in
        subst (λ (p : Post). IsTrue (is_kind_in p.machine (Some k))) (sym (came_post v a came_a)) (subst (λ o. IsTrue (is_kind_in v.post.machine o)) (sym is.read ∙ read) is.fits)

    lives : IsTrue (is_live k) × (k.kind ≡ level_type level)
    lives = known_live v.post.machine v.post.vcpu v.holdings f x k look.finds fields (level_type level) (live_table holds).live

    pub may_pin : 1 ≤ level → k.pinned ≡ false → MayPin a.post.machine a.post.vcpu f k (pinned_kind k) a.holdings
    may_pin low off =
        record {
          live = lives.0;
          table = rw lives.1 (level_type-table level low);
          unpinned = off;
          counted = subst (λ (y : KindWord). 0 < y.number) fields (found_live v.post.machine v.post.vcpu v.holdings f x look.finds (may_drop (live_table holds))).some;
          left = refl;
          in_hand = held_typed (live_table holds_a);
          own = owner_known a f level holds_a;
        }

    -- the exchange by the word that was found
    try_as : {b : PortValue} {found : ℕ} → Moves a b (Kind f) (Cas (kind_write k) (kind_write (pinned_kind k))) kinds.Kind None found → Moves a b (Kind f) (Cas x (kind_write (pinned_kind k))) kinds.Kind None found
    try_as {b} {found} m = subst (λ e. Moves a b (Kind f) (Cas e (kind_write (pinned_kind k))) kinds.Kind None found) written m

    sets_pin : {b : PortValue} {found : ℕ} → Moves a b (Kind f) (Cas (kind_write k) (kind_write (pinned_kind k))) kinds.Kind None found → SetsPin a b f x found
    sets_pin {b} {found} m = subst (λ (y : KindWord). Moves a b (Kind f) (Cas x (kind_write (pinned_kind y))) kinds.Kind None found) (sym fields) (try_as m)

    pub is_pinned_as : (on : Bool) → k.pinned ≡ on → (kind_fields x).pinned ≡ on
    is_pinned_as on is = ap (λ (y : KindWord). y.pinned) fields ∙ is

    -- ---- the request
    abbrev request : Request
    request = of_pin (own_domain v) f level false

    asked : (F : Finding) → Asked v.post.machine v.post.vcpu request F f (own_domain v) (Some (level_type level))
    asked F = named (when_eq f f refl) refl refl

    is_asked : (F : Finding) → IsAsked v.post.machine v.post.vcpu request F f
    is_asked F = of (own_domain v) (Some (level_type level)) (asked F)

    looked : Serves v a request []
    looked = moves_serves v a request (Kind f) Load kinds.Look None x look tt

    -- ---- it is pinned already: the reference is given back
    module _ (w : PortValue) (gives : Serves a w (of_back f) []) where
      found_with : FoundWith (Met v w) (Kind f) x v.holdings
      unfolding moment_of
      found_with =
          record { moment = moment_of v (Kind f) Load kinds.Look None x; was = met_before v a w _ (moves_met v a (Kind f) Load kinds.Look None x look) (serves_came a w (of_back f) [] gives); place = refl; word = refl; hand = refl }

      seen_stops : k.pinned ≡ true → Stops v w request (Refused (AlreadyPinned x))
      unfolding Stops
      seen_stops on =
          (f, own_domain v, level_type level, v.holdings, asked (Met v w), found_with, checked (owner_known v f level holds), refl, when_eq f f refl, ap (λ (y : KindWord). y.pinned) fields ∙ on, ap (λ (y : KindWord). y.kind) fields ∙ lives.1)

    pub seen : {w : PortValue} → k.pinned ≡ true → GivesUp a w f level false → PinsLive v w f level (Err (Refused (AlreadyPinned x)))
    seen {w} on gone =
        record {
          serves = ([], told _ _ tt, serves_back v a w request [] [] looked f (is_asked (Met v w)) gone.serves);
          stops = seen_stops w gone.serves on;
          kinds = tt;
          hand = gives_from v a w f false same gone.hand;
          course = ends.seen a x look (is_pinned_as true on) gone.course;
        }

    -- ---- the exchange
    module _ (low : 1 ≤ level) (off : k.pinned ≡ false) where
      new_is : IsTrue (is_kind (pinned_kind k))
      new_is = let may = may_pin low off in pinned_is k spelled may.live may.table may.counted

      new_fields : kind_fields (kind_write (pinned_kind k)) ≡ pinned_kind k
      new_fields = fields_write (pinned_kind k) new_is

      keeps : IsTrue (keeps_type x (kind_write (pinned_kind k)))
      keeps = mark_keeps x (kind_write (pinned_kind k)) k (pinned_kind k) fields new_fields refl (live_undead k lives.0)

      module _ {b : PortValue} {found : ℕ} (set : Moves a b (Kind f) (Cas (kind_write k) (kind_write (pinned_kind k))) kinds.Kind None found) where
        try : Moves a b (Kind f) (Cas x (kind_write (pinned_kind k))) kinds.Kind None found
        try = try_as set

        tried_serves : Serves v b request (deeds_by (Kind f) (Cas x (kind_write (pinned_kind k))) kinds.Kind found a.holdings ++ [])
        tried_serves = tried v a b request f x (kind_write (pinned_kind k)) found try refl (is_asked (Met v b)) keeps [] looked

        pub pinned : found ≡ kind_write k → Holds a b (gave_pin f k a.holdings) → PinsLive v b f level (Ok tt)
        pinned at pins =
            record {
              serves = (
                Pins f ∷ [],
                told _ _ tt,
                subst (λ ds. Serves v b request (ds ++ []))
                    (ap (λ y. deeds_by (Kind f) (Cas x (kind_write (pinned_kind k))) kinds.Kind y a.holdings) (at ∙ written)
                    ∙ pins_deed f x (kind_write (pinned_kind k)) a.holdings (ap (λ (y : KindWord). y.pinned) fields ∙ off) (ap (λ (y : KindWord). y.pinned) new_fields))
                    tried_serves,
              );
              stops = tt;
              kinds = tt;
              hand = pinned_hand v a b f level k holds same pins;
              course = ends.pinned a x look (is_pinned_as false off) (subst (λ y. SetsPin a b f x y) (at ∙ written) (sets_pin set));
            }

        inside_a : f < a.post.machine.frames
        inside_a = subst (λ (p : Post). f < p.machine.frames) (sym (came_post v a came_a)) frame

        pub found_some : IsTrue (is_some (kind_read found))
        found_some = kind_is_some a.post.machine a.post.vcpu a.holdings f found inside_a try.finds

        -- ---- another word was found: the reference is given back
        pub still_holds : Holds a b (looked_at f found a.holdings) → HoldsTable b f level
        still_holds looks = holds_still a b f level (lost_hand a b f level found holds_a looks) holds_a

        module _ (lost : found ≢ kind_write k) (looks : Holds a b (looked_at f found a.holdings)) {j : KindWord} (read_now : kind_read found ≡ Some j) {w : PortValue} {kept : Bool} (gone : GivesUp b w f level kept) where
          other : found ≢ x
          other = subst (λ e. found ≢ e) written lost

          hand_w : GivesTableUp v w f kept
          hand_w = gives_from v b w f kept (lost_hand a b f level found holds_a looks ∙ same) gone.hand

          fields_now : kind_fields found ≡ j
          fields_now = fields_of found j read_now

          came_b : Came a b
          came_b = moves_came a b (Kind f) (Cas x (kind_write (pinned_kind k))) kinds.Kind None found try

          came_end : Came b w
          came_end = serves_came b w (of_back f) [] gone.serves

          missed_serves : Serves v w request (missed_at (Kind f))
          missed_serves =
              serves_back v b w request (missed_at (Kind f)) [] (subst (λ ds. Serves v b request (ds ++ [])) (lost_deeds f x (kind_write (pinned_kind k)) a.holdings found other) tried_serves) f (is_asked (Met v w)) gone.serves

          found_now : FoundWith (Met v w) (Kind f) found a.holdings
          unfolding moment_of
          found_now =
              record {
                moment = moment_of a (Kind f) (Cas x (kind_write (pinned_kind k))) kinds.Kind None found;
                was = met_after v a w _ came_a (met_before a b w _ (moves_met a b (Kind f) (Cas x (kind_write (pinned_kind k))) kinds.Kind None found try) came_end);
                place = refl;
                word = refl;
                hand = refl;
              }

          owner_a : IsTrue (knows_owner (sizes_of v.post.machine) f (own_domain v) a.holdings)
          owner_a = subst (λ (p : Post). IsTrue (knows_owner (sizes_of p.machine) f (domain_of p.machine p.vcpu) a.holdings)) (came_post v a came_a) (owner_known a f level holds_a)

          raced_stops : j.pinned ≡ true → Stops v w request (Refused (AlreadyPinned found))
          unfolding Stops
          raced_stops on =
              let lives_now = known_live a.post.machine a.post.vcpu a.holdings f found j try.finds fields_now (level_type level) (live_table holds_a).live in
              (f, own_domain v, level_type level, a.holdings, asked (Met v w), found_now, checked owner_a, refl, when_eq f f refl, ap (λ (y : KindWord). y.pinned) fields_now ∙ on, ap (λ (y : KindWord). y.kind) fields_now ∙ lives_now.1)

          place_is : number (sizes_of w.post.machine) (Kind f) ≡ number (sizes_of v.post.machine) (Kind f)
          place_is = ap (λ (p : Post). number (sizes_of p.machine) (Kind f)) (came_post v w (came_trans v b w (came_trans v a b came_a came_b) came_end))

        -- it is pinned by now, or it is not
        module _ (lost : found ≢ kind_write k) (looks : Holds a b (looked_at f found a.holdings)) {j : KindWord} (read_now : kind_read found ≡ Some j) {w : PortValue} where
          pub raced : GivesUp b w f level false → j.pinned ≡ true → PinsLive v w f level (Err (Refused (AlreadyPinned found)))
          raced gone on =
              record {
                serves = (missed_at (Kind f), raced_pin f level found, missed_serves lost looks read_now gone);
                stops = raced_stops lost looks read_now gone on;
                kinds = tt;
                hand = hand_w lost looks read_now gone;
                course = ends.raced a b x found look (is_pinned_as false off) (sets_pin set) (other lost looks read_now gone) (ap (λ (y : KindWord). y.pinned) (fields_now lost looks read_now gone) ∙ on) gone.course;
              }

          pub missed_it : {stop : Stop} → GivesUp b w f level true → j.pinned ≡ false → stop ≡ Paused (Lost (number (sizes_of w.post.machine) (Kind f)) x found) → PinsLive v w f level (Err stop)
          missed_it gone still is =
              let there = place_is lost looks read_now gone in
              rw is
              (record {
                serves = (missed v.post.machine (Paused (Lost (number (sizes_of w.post.machine) (Kind f)) x found)), told _ _ tt, rw (lost_misses v.post.machine f x found (number (sizes_of w.post.machine) (Kind f)) look.may.place there) (missed_serves lost looks read_now gone));
                stops = lost_stops v v a b w f x (kind_write (pinned_kind k)) found (came_self v) look try (serves_came b w (of_back f) [] gone.serves) (other lost looks read_now gone) request (number (sizes_of w.post.machine) (Kind f)) there refl (is_asked (Met v w)) keeps;
                kinds = tt;
                hand = hand_w lost looks read_now gone;
                course = rw there (ends.lost a b x found look (is_pinned_as false off) (sets_pin set) (other lost looks read_now gone) (ap (λ (y : KindWord). y.pinned) (fields_now lost looks read_now gone) ∙ still) gone.course);
              })
