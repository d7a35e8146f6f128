-- The only typed reference in hand is given back: what is in hand then.
use Rattle.std.proofs.Common.{◌≡◌, ℕ, ◌+◌, ◌<◌, ◌≤◌, if◌then◌else◌, true, false, List, [], ◌∷◌, length, None, Result, IsTrue, refl, sym, ap, ◌∙◌, subst, arith}
use Rattle.xp_words.specs.KindWords.{kind_fields}
use Rattle.xp_words.specs.PageTypes.{is_table}
use Rattle.xp_words.specs.Places.{sizes_of}
use Rattle.xp_words.specs.declared.kind.PageType.{PageType}
use Rattle.xp_words.specs.declared.place.Place.TheVariants.{Kind, Refs}
use Rattle.xp_words.specs.declared.reply.Stop.{Stop}
use Rattle.xp_board.specs.Hands.{refs_to, typed_to, typed_on, typed_owner, without_typed, owner_by_typed, owner_from}
use Rattle.xp_board.specs.KindSteps.{MayDrop}
use Rattle.xp_board.specs.Knowledge.{knows_owner, tells_owner}
use Rattle.xp_board.specs.RefSteps.{one_down}
use Rattle.xp_board.specs.Told.{Post, PortValue}
use Rattle.xp_board.specs.declared.holdings.Holdings.{Holdings}
use Rattle.xp_board.specs.declared.holdings.Made.{Made}
use Rattle.xp_board.specs.declared.holdings.Reference.{Reference}
use Rattle.xp_board.specs.declared.holdings.TypedReference.{TypedReference}
use Rattle.xp_board.specs.declared.holdings.Work.{Work}
use Rattle.xp_board.specs.declared.step.Act.TheVariants.{Add, Load}
use Rattle.xp_board.specs.declared.step.StepKind.TheVariants as kinds
use Rattle.xp_board.proofs.ListCounts.{first_by-cons_here, newest_held}
use Rattle.step_maker.specs.Holds.{Holds, Same, still}
use Rattle.step_maker.specs.Moves.{Came, Moves}
use Rattle.step_maker.proofs.Noting.{moves_steps}
use Rattle.frame_words.specs.Freeing.{gave}
use Rattle.frame_words.specs.Refs.{MayPut}
use Rattle.kind_words.proofs.KindHands.{apart_spares, typed_held}
use Rattle.kind_words.proofs.Leaving.{without_newest}
use Rattle.frame_types.specs.Lowering.{DropsType, closing_from}
use Rattle.frame_types.specs.Taking.{MayDropPlain, gave_type}
use Rattle.frame_types.proofs.Lowered.{closed_is, closed_kind, closed_unmarked, type_closed, type_counted}
use Rattle.partial_state.specs.Levels.{level_type}
use Rattle.level_release.specs.Course.{closing_table}
use Rattle.table_releases.specs.Tops.{IsSettledTop}
use Rattle.level_release.specs.Holding.{AreInRelease, Empties, HoldsLive, IsMadeSince, IsReleasedWork, LeavesEmptied, LeavesUnheld}
use Rattle.level_release.proofs.Handing.{emptied_leaves, now_beside}
use Rattle.level_release.proofs.Owning.{known_by_ref, look_tells, made_later}
use Rattle.kind_words.proofs.KindHands.{no_work}

module _ {v : PortValue} {f : ℕ} {kind : PageType} (holds : HoldsLive v f kind) where
  pub none_typed : without_typed f v.holdings.typed ≡ []
  none_typed = without_newest (λ (y : TypedReference). y.frame) f holds.reference [] v.holdings.typed holds.frame holds.typed

  pub held_typed : 0 < typed_to f v.holdings.typed
  held_typed = subst (λ ys. 0 < typed_to f ys) (sym holds.typed) (typed_held f holds.reference [] holds.frame)

  pub may_drop : MayDrop v.post.machine f v.holdings
  may_drop = record { in_hand = held_typed; kind = kind; live = holds.live }

  pub may_drop_plain : is_table kind ≡ false → MayDropPlain v.post.machine f kind v.holdings
  may_drop_plain plain = record { held = held_typed; live = holds.live; plain = plain; apart = no_work f v.holdings.works holds.works }

  pub plain_left : (w : PortValue) → Holds v w (gave_type f v.holdings) → Holds v w (record v.holdings { typed = [] })
  plain_left w given = given ∙ ap (λ ys. still (record v { holdings = record v.holdings { typed = ys } })) none_typed

  -- what the reference becomes
  abbrev plain_ref : Reference
  plain_ref = record { frame = f; owner = typed_owner f v.holdings }

  pub owner_is : typed_owner f v.holdings ≡ holds.reference.owner
  owner_is = ap (λ o. owner_by_typed o (owner_from v.holdings)) (ap (λ ys. typed_on f ys) holds.typed ∙ first_by-cons_here (λ (y : TypedReference). y.frame) f holds.reference [] holds.frame)

  abbrev beside : List Work → Holdings
  beside ws = record v.holdings { refs = plain_ref ∷ v.holdings.refs; typed = []; works = ws }

  -- ---- other type counts are left
  module _ {a : PortValue} (d : DropsType v a f false) where
    counted_hand : Holds v a (beside v.holdings.works)
    counted_hand = type_counted v a f false d refl ∙ ap (λ ys. still (record v { holdings = record v.holdings { refs = plain_ref ∷ v.holdings.refs; typed = ys } })) none_typed

    pub counted_gives : MayPut f a.holdings
    counted_gives =
        record {
          held = rw (ap (λ (q : PortValue). q.holdings.refs) counted_hand) (newest_held f plain_ref v.holdings.refs refl);
          spares = apart_spares f a.holdings (no_work f a.holdings.works (ap (λ (q : PortValue). q.holdings.works) counted_hand ∙ holds.works));
        }

    pub counted_left : (w : PortValue) → Holds a w (gave f a.holdings) → Holds v w (record v.holdings { typed = [] })
    counted_left w put =
        put ∙ ap (λ (q : PortValue). still (record q { holdings = gave f q.holdings })) counted_hand
        ∙ ap (λ (rs : List Reference). still (record v { holdings = record v.holdings { refs = rs; typed = [] } })) (without_newest (λ (y : Reference). y.frame) f plain_ref v.holdings.refs _ refl refl)

  -- ---- none is left: the table is closing in the hand, with all its entries recorded
  module _ {a : PortValue} (d : DropsType v a f true) where
    abbrev closing : Work
    closing = closing_from f d.found v.holdings

    pub closed_hand : Holds v a (beside (closing ∷ v.holdings.works))
    closed_hand = type_closed v a f true d refl ∙ ap (λ ys. still (record v { holdings = record v.holdings { refs = plain_ref ∷ v.holdings.refs; typed = ys; works = closing ∷ v.holdings.works } })) none_typed

    closing_since : closing.since ≤ length a.holdings.steps
    closing_since = let more = ap (λ (xs : List Made). length xs) (moves_steps v a (Kind f) (Add one_down) kinds.Kind None d.found d.lowers.step) in omega (arith, more)

    pub all_recorded : is_table kind ≡ true → closing.recorded ≡ 512
    all_recorded table = let k : is_table (kind_fields d.found).kind ≡ true = ap is_table (d.lowers.kind kind holds.live) ∙ table in ap (λ b. if b then 512 else 0) k

    -- behind a look at its reference word
    module _ {x : PortValue} {word : ℕ} (look : Moves a x (Refs f) Load kinds.Look None word) (same : Same a x) (level : ℕ) (is : level_type level ≡ kind) where
      looked_hand : Holds v x (beside (closing ∷ v.holdings.works))
      looked_hand = same ∙ closed_hand

      one_work : x.holdings.works ≡ closing ∷ []
      one_work = ap (λ (q : PortValue). q.holdings.works) looked_hand ∙ ap (λ ws. closing ∷ ws) holds.works

      pub closed_settled : IsSettledTop x.holdings
      closed_settled work others are = let both : work ∷ others ≡ closing ∷ [] = sym are ∙ one_work in let one : closing ≡ work = cc in subst (λ (y : Work). y.unsettled ≡ None) one refl

      same_post : x.post ≡ v.post
      same_post = ap (λ (q : PortValue). q.post) looked_hand

      newest : a.holdings.refs ≡ plain_ref ∷ v.holdings.refs
      newest = ap (λ (q : PortValue). q.holdings.refs) closed_hand

      held_plain : 0 < refs_to f a.holdings.refs + typed_to f a.holdings.typed
      held_plain = let some = subst (λ rs. 0 < refs_to f rs) (sym newest) (newest_held f plain_ref v.holdings.refs refl) in omega (arith, some)

      steps_on : length v.holdings.steps ≤ length a.holdings.steps
      steps_on = let late = closing_since in omega (arith, late)

      owner_tells : (o : ℕ) × IsTrue (knows_owner (sizes_of x.post.machine) f o x.holdings)
      owner_tells =
          let told = look_tells look held_plain (typed_owner f v.holdings) (subst (λ k. IsMadeSince (length a.holdings.steps) k) (sym owner_is) (made_later (length v.holdings.steps) (length a.holdings.steps) holds.reference.owner steps_on holds.recent)) in (
            told.0,
            known_by_ref (sizes_of x.post.machine) told.0 x.holdings (ap (λ (q : PortValue). q.holdings.refs) looked_hand) refl
                (subst (λ (q : Post). IsTrue (tells_owner (sizes_of q.machine) x.holdings.steps f told.0 plain_ref.owner)) (sym (ap (λ (q : PortValue). q.post) same)) told.1),
          )

      module _ (low : 1 ≤ level) (high : level ≤ 4) (table : is_table kind ≡ true) (inside : f < v.post.machine.frames) where
        closing_work : IsReleasedWork (sizes_of x.post.machine) (length x.holdings.steps) (closing_table f level) closing
        closing_work =
            let all = all_recorded table in
            let since = closing_since in
            let more = ap (λ (xs : List Made). length xs) (moves_steps a x (Refs f) Load kinds.Look None word look) in
            record {
              inside = subst (λ (q : Post). f < q.machine.frames) (sym same_post) inside;
              frame = refl;
              kind = closed_kind v a f true d refl kind holds.live ∙ sym is;
              unmarked = closed_unmarked v a f true d refl;
              recorded = omega (arith, all);
              work = λ own. absurd cc;
              closing = λ lent. closed_is v a f true d refl;
              earlier = omega (arith, since, more);
            }

        pub closed_empties : Empties (record v.holdings { typed = [] }) x (closing_table f level ∷ [])
        closed_empties =
            let told = owner_tells in
            record {
              works = holds.works;
              typed = refl;
              looking = holds.looking;
              stack = (record { low = low; high = high; done = omega arith }, tt, tt);
              tables = subst (λ ws. AreInRelease (sizes_of x.post.machine) (length x.holdings.steps) None (closing_table f level ∷ []) ws) (sym one_work) (closing_work, tt, tt);
              refs = (plain_ref, v.holdings.refs, refl, ap (λ (q : PortValue). q.holdings.refs) looked_hand, refl);
              types = ap (λ (q : PortValue). q.holdings.typed) looked_hand;
              owner = told.0;
              owned = (told.1, tt);
              hand = now_beside v x (record v.holdings { typed = [] }) (plain_ref ∷ v.holdings.refs) [] (closing ∷ v.holdings.works) looked_hand;
            }

        pub emptied_released : (w : PortValue) (answer : Result (Unit {0}) Stop) → Came x w → LeavesEmptied x w (closing_table f level) answer → LeavesUnheld v w f answer
        emptied_released w answer came left = emptied_leaves v w same_post came closed_empties answer left
