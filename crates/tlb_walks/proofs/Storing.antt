-- A write of the guest: what its steps show.
use Rattle.std.proofs.Common.{◌≡◌, ℕ, Bool, true, false, List, [], Some, None, Result, Ok, Err, IfErr, refl, sym, ap, ◌∙◌, subst, inl}
use Rattle.xp_words.specs.declared.reply.Refusal.TheVariants.{BadRange, ReadOnly}
use Rattle.xp_words.specs.declared.reply.Stop.{Stop}
use Rattle.xp_words.specs.declared.reply.Stop.TheVariants.{Refused}
use Rattle.xp_board.specs.declared.step.Item.{Item}
use Rattle.xp_board.specs.FillSteps.{cached_with}
use Rattle.xp_board.specs.Lists.{first_of}
use Rattle.xp_board.specs.Told.{PortValue, cached_item, is_item}
use Rattle.xp_board.proofs.Sums.{when_eq}
use Rattle.step_maker.specs.Moves.{Came, Met}
use Rattle.step_maker.proofs.Coming.{came_self, came_trans, moves_came}
use Rattle.step_maker.specs.Answers.{Serves, Stops}
use Rattle.step_maker.specs.Asked.{IsAsked, Request, named, of, walked as walked_to_it}
use Rattle.step_maker.proofs.Changing.{found_before}
use Rattle.step_maker.proofs.Piecing.{moves_serves, serves_nothing, serves_step}
use Rattle.step_maker.proofs.Visiting.{does_one, does_then}
use Rattle.tlb_walks.specs.Accesses as acc
use Rattle.tlb_walks.specs.Accesses.{OneWrite, ServesWrite, GuestWrites, server}
use Rattle.tlb_walks.specs.Addresses.{access_refusal, page_of, cell_index}
use Rattle.tlb_walks.specs.Asking.{IsGuestReadStop, IsWalkStop, IsGuestWriteStop, leads_to, of_write}
use Rattle.tlb_walks.specs.Flying.{WalkReady, WalkMoves}
use Rattle.tlb_walks.specs.Guesting.{StoreMoves, barred, cached, read_only, stopped, walked}
use Rattle.tlb_walks.specs.Translating.{item_by}
use Rattle.tlb_walks.specs.declared.walks.Walked.{Walked}
use Rattle.tlb_walks.proofs.Guests.{landed_then, new_first, ready_then, server_cached}
use Rattle.tlb_walks.proofs.Reading.{no_refusal, refused_kind, refused_stops, stayed_does, stayed_same, walked_then}
use Rattle.tlb_walks.proofs.Turning.{same_ready, turned_landed, turned_ready}
use Rattle.tlb_walks.proofs.Walking.{stopped_same, walk_barrier, walk_came, walk_does, walk_kind, walk_last, walk_serves, walk_stops, walked_to}

-- the newest translation of the page is the one in front
own_item : (user : Bool) (va : ℕ) (write : Bool) (r : Walked) → is_item user (page_of va) (item_by user va write r) ≡ true
own_item true va write r = when_eq (page_of va) (page_of va) refl
own_item false va write r = when_eq (page_of va) (page_of va) refl

first_new : (user : Bool) (va : ℕ) (write : Bool) (r : Walked) (xs : List Item) → cached_item user (page_of va) (cached_with (item_by user va write r) xs) ≡ Some (item_by user va write r)
unfolding first_of
first_new user va write r xs = rw (own_item user va write r) refl

module _ (v w : PortValue) (user : Bool) (va val : ℕ) where
  pub store_came : (a : Result (Unit {0}) Stop) → StoreMoves v w user va val a → Came v w
  store_came _ (barred x why stay) = subst (λ q. Came v q) (sym stay) (came_self v)
  store_came _ (cached x found may is m same) = moves_came v w _ _ _ _ _ m
  store_came _ (stopped e may none m hand) = walk_came user va true v w (Err e) m
  store_came _ (read_only r e may none at m hand) = walk_came user va true v w (Ok r) m
  store_came _ (walked u r found may none clear m hand k same) = came_trans v u w (walk_came user va true v u (Ok r) m) (moves_came u w _ _ _ _ _ k)

  abbrev asks : Request
  asks = of_write v user va

  -- the cached translation leads to the frame
  named_frame : (x : Item) → server v user va true ≡ Some x → IsAsked v.post.machine v.post.vcpu asks (Met v w) x.frame
  named_frame x is =
      of 0 None (named (ap (λ o. leads_to o x.frame) (server_cached v user va true x is) ∙ when_eq x.frame x.frame refl) refl tt)

  pub store_serves : (a : Result (Unit {0}) Stop) → StoreMoves v w user va val a → ServesWrite v w user va val a
  store_serves _ (barred x why stay) = subst (λ q. Serves v q asks []) (sym stay) (serves_nothing v asks)
  store_serves _ (cached x found may is m same) = (
    x,
    ap (λ (q : PortValue). cached_item user (page_of va) q.holdings.cache) same ∙ server_cached v user va true x is,
    moves_serves v w asks _ _ _ _ _ m (named_frame x is),
  )
  store_serves _ (stopped e may none m hand) = walk_serves user va true asks refl refl v w (Err e) m
  store_serves _ (read_only r e may none at m hand) = walk_serves user va true asks refl refl v w (Ok r) m
  store_serves _ (walked u r found may none clear m hand k same) =
      let last = walk_last user va true v u r m in (
        item_by user va true r,
        ap (λ (q : PortValue). cached_item user (page_of va) q.holdings.cache) same ∙ ap (λ xs. cached_item user (page_of va) xs) (new_first v u user va true r hand) ∙ first_new user va true r v.holdings.cache,
        serves_step v u w asks [] _ _ _ _ _ (walk_serves user va true asks refl refl v u (Ok r) m) k
            (of 0 None (walked_to_it last.0 last.1 r.entry refl (found_before v u w _ _ (moves_came u w _ _ _ _ _ k) last.2) refl refl tt)),
      )

  no_write : (r : Walked) (e : ℕ) → r.barrier ≡ Some e → WalkMoves v w user va true (Ok r) → Stops v w asks (Refused (ReadOnly e))
  unfolding Stops
  no_write r e at m = let b = walk_barrier user va true v w r e at m in (refl, b, inl refl)

  pub store_stops : (a : Result (Unit {0}) Stop) → StoreMoves v w user va val a → IfErr a (λ e. Stops v w asks e)
  store_stops _ (barred x why stay) = refused_stops v w asks va x why refl stay
  store_stops _ (cached x found may is m same) = tt
  store_stops _ (stopped e may none m hand) = walk_stops user va true asks refl refl v w e (λ x f. no_refusal va x asks may f) m
  store_stops _ (read_only r e may none at m hand) = no_write r e at m
  store_stops _ (walked u r found may none clear m hand k same) = tt

  read_is_write : (e : Stop) → IsGuestReadStop e → IsGuestWriteStop e
  read_is_write (Refused (ReadOnly x)) a = tt
  read_is_write _ a = a

  walk_is_write : (e : Stop) → IsWalkStop e → IsGuestWriteStop e
  walk_is_write (Refused (ReadOnly x)) a = tt
  walk_is_write (Refused BadRange) a = tt
  walk_is_write _ a = a

  pub store_kinds : (a : Result (Unit {0}) Stop) → StoreMoves v w user va val a → IfErr a IsGuestWriteStop
  store_kinds _ (barred x why stay) = read_is_write (Refused x) (refused_kind va x why)
  store_kinds _ (cached x found may is m same) = tt
  store_kinds _ (stopped e may none m hand) = walk_is_write e (walk_kind user va true v w e m)
  store_kinds _ (read_only r e may none at m hand) = tt
  store_kinds _ (walked u r found may none clear m hand k same) = tt

  pub store_course : (a : Result (Unit {0}) Stop) → v.holdings.walk ≡ None → StoreMoves v w user va val a → GuestWrites v w user va val a
  store_course _ landed (barred x why stay) = acc.barred x why (stayed_does v w stay) (stayed_same v w stay)
  store_course _ landed (cached x found may is m same) = acc.cached x found may is (does_one v w _ _ _ _ _ m) same
  store_course _ landed (stopped e may none m hand) = acc.stopped e may none (walk_does user va true v w (Err e) m) (stopped_same v w user va true e landed hand)
  store_course _ landed (read_only r e may none at m hand) = acc.read_only r e may none at (walk_does user va true v w (Ok r) m) (walked_to v w user va true r landed hand)
  store_course _ landed (walked u r found may none clear m hand k same) =
      acc.walked r found may none clear (does_then v u w _ _ (walk_does user va true v u (Ok r) m) (does_one u w _ _ _ _ _ k)) (walked_then v u w user va true r (walked_to v u user va true r landed hand) same)

  pub store_served : (a : Result (Unit {0}) Stop) (x : Item) → access_refusal va ≡ None → server v user va true ≡ Some x → StoreMoves v w user va val a → OneWrite v w x.frame (cell_index va) val a
  store_served _ x may is (barred y why stay) = absurd cc
  store_served _ x may is (cached y found go at m same) =
      let one : y ≡ x = cc in subst (λ (z : Item). OneWrite v w z.frame (cell_index va) val (Ok tt)) one (record { found = found; answer_is = refl; moves = m })
  store_served _ x may is (stopped e go none m hand) = absurd cc
  store_served _ x may is (read_only r e go none at m hand) = absurd cc
  store_served _ x may is (walked u r found go none clear m hand k same) = absurd cc

  pub store_ready : (a : Result (Unit {0}) Stop) → WalkReady v → StoreMoves v w user va val a → WalkReady w
  store_ready _ r (barred x why stay) = subst WalkReady (sym stay) r
  store_ready _ r (cached x found may is m same) = same_ready v w r same
  store_ready _ r (stopped e may none m hand) = turned_ready v w _ hand r
  store_ready _ r (read_only q e may none at m hand) = ready_then v w user va true q hand r
  store_ready _ r (walked u q found may none clear m hand k same) = same_ready u w (ready_then v u user va true q hand r) same

  pub store_landed : (a : Result (Unit {0}) Stop) → v.holdings.walk ≡ None → StoreMoves v w user va val a → w.holdings.walk ≡ None
  store_landed _ none (barred x why stay) = ap (λ (q : PortValue). q.holdings.walk) stay ∙ none
  store_landed _ none (cached x found may is m same) = ap (λ (q : PortValue). q.holdings.walk) same ∙ none
  store_landed _ none (stopped e may no_item m hand) = turned_landed v w _ hand refl
  store_landed _ none (read_only q e may no_item at m hand) = landed_then v w user va true q hand
  store_landed _ none (walked u q found may no_item clear m hand k same) = ap (λ (z : PortValue). z.holdings.walk) same ∙ landed_then v u user va true q hand
