-- The way down to where a table was left, and one entry or one table, are determined.
use Rattle.std.proofs.Common.{◌≡◌, ℕ, ◌-◌, ◌<◌, Bool, true, false, List, [], ◌∷◌, Result, Ok, Err, refl, arith}
use Rattle.xp_words.specs.declared.reply.Stop.{Stop}
use Rattle.xp_board.specs.Told.{PortValue}
use Rattle.step_maker.specs.Moves.{Came}
use Rattle.step_maker.proofs.Coming.{came_self, came_trans}
use Rattle.partial_state.specs.Levels.{level_type}
use Rattle.partial_state.specs.declared.stack.TableWork.{TableWork}
use Rattle.table_entries.specs.Acquiring as ways
use Rattle.table_entries.specs.Acquiring.{Advanced, GaveBack, Joined, LeftWaiting, MadeLive, ResumedEntry, TookEntry, TookOn, one_entry_more, table_opened}
use Rattle.table_entries.specs.declared.entries.Entered.{Entered}
use Rattle.table_entries.specs.declared.entries.Entered.TheVariants.{Recorded, Opened, Unsettled}
use Rattle.table_entries.specs.declared.resuming.Resumed.{Resumed}
use Rattle.table_entries.specs.declared.resuming.Resumed.TheVariants as again
use Rattle.determined_laws.specs.Courses.{Alike}
use Rattle.determined_tables.proofs.Chains.{Chain, Choice, Ends, IsFixed, behind, fixed_by, fixed_choice, fixed_ends, fixed_never, fixed_sure, fixed_then, left, right, sure_two}
use Rattle.determined_tables.proofs.Entries.{entry_fixed, resumed_fixed}
use Rattle.determined_tables.proofs.Leaves.{gave_back_sure, joined_sure, left_waiting_sure, live_sure}

-- the tables in work at the end, and the answer
abbrev pub Worksheet : Type 0
Worksheet = List TableWork × Result Bool Stop

module _ (owner : ℕ) where
  abbrev pub Took : PortValue → List TableWork → PortValue → Worksheet → Type 0
  Took v ts w z = TookOn owner v ts w z.0 z.1

  -- ---- down to where a table was left, behind the look at its last recorded entry
  abbrev ResumedRest : TableWork → List TableWork → PortValue → Result Resumed Stop → PortValue → Worksheet → Type 0
  ResumedRest t ts u (Ok again.Settled) w z = Ends u (t ∷ ts, Ok false) w z
  ResumedRest t ts u (Ok (again.Taken f)) w z = (z ≡ (t ∷ ts, Ok true)) × GaveBack u w f
  ResumedRest t ts u (Ok (again.Opened f progress)) w z = Took u (table_opened t f progress false true ∷ t ∷ ts) w z
  ResumedRest t ts u (Ok (again.Waiting f stamp stop)) w z = (z ≡ (t ∷ ts, Err stop)) × LeftWaiting u w f (t.level - 1) stamp
  ResumedRest t ts u (Err stop) w z = Ends u (t ∷ ts, Err stop) w z

  abbrev TookView : PortValue → List TableWork → PortValue → Worksheet → Type 0
  TookView v [] w z = ⊥
  TookView v (t ∷ ts) w z = Choice (t.done ≡ 0) (0 < t.done) (Ends v (t ∷ ts, Ok false)) (Chain (λ u a. ResumedEntry v u owner t a) (ResumedRest t ts)) w z

  took_view : (v : PortValue) (ts : List TableWork) (w : PortValue) (us : List TableWork) (a : Result Bool Stop) → TookOn owner v ts w us a → TookView v ts w (us, a)
  took_view _ _ _ _ _ (ways.fresh v t ts none) = left none (refl, refl)
  took_view _ _ _ _ _ (ways.settled v w t ts some r) = right some (record { at = w; answer = Ok again.Settled; first = r; rest = (refl, refl) })
  took_view _ _ _ _ _ (ways.taken v u w t ts f some r g) = right some (record { at = u; answer = Ok (again.Taken f); first = r; rest = (refl, g) })
  took_view _ _ _ _ _ (ways.opened v u w t ts us f progress answer some r on) = right some (record { at = u; answer = Ok (again.Opened f progress); first = r; rest = on })
  took_view _ _ _ _ _ (ways.waiting v u w t ts f stamp stop some r l) = right some (record { at = u; answer = Ok (again.Waiting f stamp stop); first = r; rest = (refl, l) })
  took_view _ _ _ _ _ (ways.stopped v w t ts stop some r) = right some (record { at = w; answer = Err stop; first = r; rest = (refl, refl) })

  pub took_came : (v : PortValue) (ts : List TableWork) (w : PortValue) (us : List TableWork) (a : Result Bool Stop) → TookOn owner v ts w us a → Came v w
  took_came _ _ _ _ _ (ways.fresh v t ts none) = came_self v
  took_came _ _ _ _ _ (ways.settled v w t ts some r) = (resumed_fixed v owner t).came w _ r
  took_came _ _ _ _ _ (ways.taken v u w t ts f some r g) = came_trans v u w ((resumed_fixed v owner t).came u _ r) ((gave_back_sure u f).came w tt g)
  took_came _ _ _ _ _ (ways.opened v u w t ts us f progress answer some r on) = came_trans v u w ((resumed_fixed v owner t).came u _ r) (took_came u _ w us answer on)
  took_came _ _ _ _ _ (ways.waiting v u w t ts f stamp stop some r l) = came_trans v u w ((resumed_fixed v owner t).came u _ r) ((left_waiting_sure u f (t.level - 1) stamp).came w tt l)
  took_came _ _ _ _ _ (ways.stopped v w t ts stop some r) = (resumed_fixed v owner t).came w _ r

  rest_came : (t : TableWork) (ts : List TableWork) (u : PortValue) (a : Result Resumed Stop) (w : PortValue) (z : Worksheet) → ResumedRest t ts u a w z → Came u w
  rest_came t ts u (Ok again.Settled) w z p = (fixed_ends u (t ∷ ts, Ok false)).came w z p
  rest_came t ts u (Ok (again.Taken f)) w z p = (gave_back_sure u f).came w tt p.1
  rest_came t ts u (Ok (again.Opened f progress)) w z p = took_came u _ w z.0 z.1 p
  rest_came t ts u (Ok (again.Waiting f stamp stop)) w z p = (left_waiting_sure u f (t.level - 1) stamp).came w tt p.1
  rest_came t ts u (Err stop) w z p = (fixed_ends u (t ∷ ts, Err stop)).came w z p

  -- beside any other way from there
  beside : (v u w x : PortValue) (t : TableWork) (ts : List TableWork) (a : Result Resumed Stop) (z : Worksheet) (F : Type 0) → 0 < t.done → ResumedEntry v u owner t a → Came u w → TookView v (t ∷ ts) x z →
      (ResumedRest t ts u a x z → Alike u w x F) → Alike v w x F
  beside v u w x t ts a z F some r on (left none e) rest = absurd (omega (arith, none, some))
  beside v u w x t ts a z F some r on (right also c) rest = behind (λ y b. ResumedRest t ts y b x z) (resumed_fixed v owner t) r c.first on (rest_came t ts c.at c.answer x z c.rest) c.rest rest

  none_beside : (v x : PortValue) (t : TableWork) (ts : List TableWork) (z : Worksheet) → t.done ≡ 0 → TookView v (t ∷ ts) x z → Alike v v x ((t ∷ ts, Ok false) ≡ z)
  none_beside v x t ts z none (left also e) = (fixed_ends v (t ∷ ts, Ok false)).alike v x _ z (refl, refl) e
  none_beside v x t ts z none (right some c) = absurd (omega (arith, none, some))

  took_alike : (v : PortValue) (ts : List TableWork) (w : PortValue) (us : List TableWork) (a : Result Bool Stop) → TookOn owner v ts w us a → (x : PortValue) (z : Worksheet) → TookView v ts x z → Alike v w x ((us, a) ≡ z)
  took_alike _ _ _ _ _ (ways.fresh v t ts none) x z q = none_beside v x t ts z none q
  took_alike _ _ _ _ _ (ways.settled v w t ts some r) x z q = beside v w w x t ts (Ok again.Settled) z _ some r (came_self w) q (λ s. (fixed_ends w (t ∷ ts, Ok false)).alike w x _ z (refl, refl) s)
  took_alike _ _ _ _ _ (ways.taken v u w t ts f some r g) x z q =
      beside v u w x t ts (Ok (again.Taken f)) z _ some r ((gave_back_sure u f).came w tt g) q (λ s. (fixed_sure (t ∷ ts, Ok true) (gave_back_sure u f)).alike w x _ z (refl, g) s)
  took_alike _ _ _ _ _ (ways.opened v u w t ts us f progress answer some r on) x z q =
      beside v u w x t ts (Ok (again.Opened f progress)) z _ some r (took_came u _ w us answer on) q (λ s. took_alike u _ w us answer on x z (took_view u _ x z.0 z.1 s))
  took_alike _ _ _ _ _ (ways.waiting v u w t ts f stamp stop some r l) x z q =
      beside v u w x t ts (Ok (again.Waiting f stamp stop)) z _ some r ((left_waiting_sure u f (t.level - 1) stamp).came w tt l) q
      (λ s. (fixed_sure (t ∷ ts, Err stop) (left_waiting_sure u f (t.level - 1) stamp)).alike w x _ z (refl, l) s)
  took_alike _ _ _ _ _ (ways.stopped v w t ts stop some r) x z q = beside v w w x t ts (Err stop) z _ some r (came_self w) q (λ s. (fixed_ends w (t ∷ ts, Err stop)).alike w x _ z (refl, refl) s)

  pub took_fixed : (v : PortValue) (ts : List TableWork) → IsFixed v (Took v ts)
  took_fixed v ts = record { came = λ w z p. took_came v ts w z.0 z.1 p; alike = λ w x z y p q. took_alike v ts w z.0 z.1 p x y (took_view v ts x y.0 y.1 q) }

  -- ---- one entry, or one table
  abbrev pub Advances : PortValue → List TableWork → PortValue → Worksheet → Type 0
  Advances v ts w z = Advanced owner v ts w z.0 z.1

  abbrev EnteredRest : TableWork → List TableWork → PortValue → Result Entered Stop → PortValue → Worksheet → Type 0
  EnteredRest t ts u (Ok Recorded) w z = Ends u (one_entry_more t ∷ ts, Ok true) w z
  EnteredRest t ts u (Ok (Opened f progress own)) w z = Took u (table_opened t f progress own false ∷ one_entry_more t ∷ ts) w z
  EnteredRest t ts u (Ok (Unsettled stop)) w z = Ends u (one_entry_more t ∷ ts, Err stop) w z
  EnteredRest t ts u (Err stop) w z = Ends u (t ∷ ts, Err stop) w z

  -- a full table that is not the only one is made live
  abbrev Completes : PortValue → TableWork → List TableWork → PortValue → Worksheet → Type 0
  Completes v t [] w z = ⊥
  Completes v t (outer ∷ ts) w z = (z ≡ (outer ∷ ts, Ok true)) × ((u : PortValue) × MadeLive v u t × Joined u w t outer t.recorded)

  abbrev AdvancedView : PortValue → List TableWork → PortValue → Worksheet → Type 0
  AdvancedView v [] w z = ⊥
  AdvancedView v (t ∷ ts) w z = Choice (t.done < 512) (t.done ≡ 512) (Chain (λ u a. TookEntry v u owner t a) (EnteredRest t ts)) (Completes v t ts) w z

  advanced_view : (v : PortValue) (ts : List TableWork) (w : PortValue) (us : List TableWork) (a : Result Bool Stop) → Advanced owner v ts w us a → AdvancedView v ts w (us, a)
  advanced_view _ _ _ _ _ (ways.recorded v w t ts low e) = left low (record { at = w; answer = Ok Recorded; first = e; rest = (refl, refl) })
  advanced_view _ _ _ _ _ (ways.opened v u w t ts us f progress own done low e on) = left low (record { at = u; answer = Ok (Opened f progress own); first = e; rest = on })
  advanced_view _ _ _ _ _ (ways.cut_off v u w t ts us f progress own stop low e on) = left low (record { at = u; answer = Ok (Opened f progress own); first = e; rest = on })
  advanced_view _ _ _ _ _ (ways.unsettled v w t ts stop low e) = left low (record { at = w; answer = Ok (Unsettled stop); first = e; rest = (refl, refl) })
  advanced_view _ _ _ _ _ (ways.stopped v w t ts stop low e) = left low (record { at = w; answer = Err stop; first = e; rest = (refl, refl) })
  advanced_view _ _ _ _ _ (ways.completed v u w t outer ts full l j) = right full (refl, (u, l, j))

  entered_fixed : (t : TableWork) (ts : List TableWork) (u : PortValue) (a : Result Entered Stop) → IsFixed u (EnteredRest t ts u a)
  entered_fixed t ts u (Ok Recorded) = fixed_ends u (one_entry_more t ∷ ts, Ok true)
  entered_fixed t ts u (Ok (Opened f progress own)) = took_fixed u (table_opened t f progress own false ∷ one_entry_more t ∷ ts)
  entered_fixed t ts u (Ok (Unsettled stop)) = fixed_ends u (one_entry_more t ∷ ts, Err stop)
  entered_fixed t ts u (Err stop) = fixed_ends u (t ∷ ts, Err stop)

  completes_fixed : (v : PortValue) (t : TableWork) (ts : List TableWork) → IsFixed v (Completes v t ts)
  completes_fixed v t [] = fixed_never v (λ w z p. p)
  completes_fixed v t (outer ∷ ts) = fixed_sure (outer ∷ ts, Ok true) (sure_two (live_sure v t) (λ u p. joined_sure u t outer t.recorded))

  view_fixed : (v : PortValue) (ts : List TableWork) → IsFixed v (AdvancedView v ts)
  view_fixed v [] = fixed_never v (λ w z p. p)
  view_fixed v (t ∷ ts) = fixed_choice (λ low full. omega (arith, low, full)) (λ low. fixed_then (entry_fixed v owner t) (λ u a p. entered_fixed t ts u a)) (λ full. completes_fixed v t ts)

  pub advanced_fixed : (v : PortValue) (ts : List TableWork) → IsFixed v (Advances v ts)
  advanced_fixed v ts = fixed_by (λ w z p. advanced_view v ts w z.0 z.1 p) (view_fixed v ts)

  -- none goes on where the only table is full
  pub none_from_full : (v : PortValue) (t : TableWork) (w : PortValue) (z : Worksheet) → t.done ≡ 512 → Advances v (t ∷ []) w z → ⊥
  none_from_full v t w z full p = by (advanced_view v (t ∷ []) w z.0 z.1 p)
    where
      by : AdvancedView v (t ∷ []) w z → ⊥
      by (left low c) = omega (arith, low, full)
      by (right full' c) = c
