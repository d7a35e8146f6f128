-- A descriptor that is written for the guest is determined.
use Rattle.std.proofs.Common.{◌≡◌, ℕ, Option, Some, None, Result, Ok, Err, refl, sym, ap, subst}
use Rattle.xp_words.specs.Entries.{fixed}
use Rattle.xp_words.specs.declared.kind.PageType.{PageType}
use Rattle.xp_words.specs.declared.kind.PageType.TheVariants.{Desc, Writable}
use Rattle.xp_words.specs.declared.place.Place.TheVariants.{Cell, Kind}
use Rattle.xp_words.specs.declared.reply.Refusal.{Refusal}
use Rattle.xp_words.specs.declared.reply.Refusal.TheVariants as refusals
use Rattle.xp_words.specs.declared.reply.Stop.{Stop}
use Rattle.xp_words.specs.declared.reply.Stop.TheVariants.{Refused}
use Rattle.xp_board.specs.declared.step.Act.TheVariants.{Load, Store}
use Rattle.xp_board.specs.declared.step.StepKind.TheVariants as kinds
use Rattle.xp_board.specs.Told.{PortValue}
use Rattle.step_maker.specs.Moves.{Came, Moves}
use Rattle.table_entries.specs.Acquiring.{GaveRef, GaveType, GotRef}
use Rattle.writable_pages.specs.Pages.{TookPage}
use Rattle.desc_pages.specs.Descriptors as ways
use Rattle.desc_pages.specs.Descriptors.{SawKind, StoredUnder, TookAs, UpdatesDescriptor, descriptor_refusal, descriptor_type, frame_at, index_at}
use Rattle.desc_pages.specs.Names.{own_domain}
use Rattle.desc_pages.specs.Pages.{TookDesc}
use Rattle.determined_laws.specs.Courses.{Alike}
use Rattle.determined_laws.proofs.Courses.{alike_map}
use Rattle.determined_tables.proofs.Chains.{Chain, Ends, IsFixed, fixed_by, fixed_ends, fixed_move, fixed_never, fixed_pair, fixed_sure, fixed_then, sure_some, sure_two}
use Rattle.determined_tables.proofs.Descs.{took_desc_fixed}
use Rattle.determined_tables.proofs.Leaves.{gave_sure, gave_type_sure, got_fixed, ref_answer}
use Rattle.determined_tables.proofs.Pages.{took_page_fixed}

-- ---- the frame, for either type
module _ (f owner : ℕ) where
  abbrev AsView : PageType → PortValue → PortValue → Result (Unit {0}) Stop → Type 0
  AsView Desc v w r = TookDesc v f owner w r
  AsView Writable v w r = TookPage v f owner w r
  AsView _ v w r = ⊥

  as_view : (want : PageType) (v w : PortValue) (r : Result (Unit {0}) Stop) → TookAs v f owner want w r → AsView want v w r
  as_view _ v _ _ (ways.as_desc w r t) = t
  as_view _ v _ _ (ways.as_memory w r t) = t

  as_view_fixed : (want : PageType) (v : PortValue) → IsFixed v (AsView want v)
  as_view_fixed Desc v = took_desc_fixed f owner v
  as_view_fixed Writable v = took_page_fixed f owner v
  as_view_fixed _ v = fixed_never v (λ w r p. p)

  pub took_as_fixed : (want : PageType) (v : PortValue) → IsFixed v (λ w r. TookAs v f owner want w r)
  took_as_fixed want v = fixed_by (as_view want v) (as_view_fixed want v)

  -- ---- a look, the type, the store, and the type given back
  module _ (i new : ℕ) where
    abbrev StoreRest : PageType → PortValue → Result (Unit {0}) Stop → PortValue → Result (Unit {0}) Stop → Type 0
    StoreRest want y (Err stop) w r = Ends y (Err stop) w r
    StoreRest want y (Ok done) w r = (r ≡ Ok tt) × ((z : PortValue) × ((old : ℕ) × Moves y z (Cell f i) (Store new) kinds.Cell None old) × GaveType z w f want)

    abbrev UnderRest : PortValue → ℕ → PortValue → PageType × Result (Unit {0}) Stop → Type 0
    UnderRest x found w z = (z.0 ≡ descriptor_type found) × Chain (λ y r. TookAs x f owner (descriptor_type found) y r) (StoreRest (descriptor_type found)) w z.1

    under_view : (v : PortValue) (want : PageType) (w : PortValue) (r : Result (Unit {0}) Stop) → StoredUnder v f owner i new want w r → Chain (λ x found. SawKind v x f found) UnderRest w (want, r)
    under_view v want w _ (ways.untaken x found stop s e t) =
        record { at = x; answer = found; first = s; rest = (e, record { at = w; answer = Err stop; first = subst (λ k. TookAs x f owner k w (Err stop)) e t; rest = (refl, refl) }) }
    under_view v want w _ (ways.stored x y z found old s e t m g) =
        record { at = x; answer = found; first = s; rest = (e, record { at = y; answer = Ok tt; first = subst (λ k. TookAs x f owner k y (Ok tt)) e t; rest = (refl, (z, (old, m), subst (λ k. GaveType z w f k) e g)) }) }

    store_rest_fixed : (want : PageType) (y : PortValue) (r : Result (Unit {0}) Stop) → IsFixed y (StoreRest want y r)
    store_rest_fixed want y (Err stop) = fixed_ends y (Err stop)
    store_rest_fixed want y (Ok done) = fixed_sure (Ok tt) (sure_two (sure_some (fixed_move y (Cell f i) (Store new) kinds.Cell None)) (λ z p. gave_type_sure z f want))

    under_rest_fixed : (x : PortValue) (found : ℕ) → IsFixed x (UnderRest x found)
    under_rest_fixed x found = fixed_pair (descriptor_type found) (fixed_then (took_as_fixed (descriptor_type found) x) (λ y r p. store_rest_fixed (descriptor_type found) y r))

    pub under_fixed : (v : PortValue) → IsFixed v (λ w (z : PageType × Result (Unit {0}) Stop). StoredUnder v f owner i new z.0 w z.1)
    under_fixed v = fixed_by (λ w z p. under_view v z.0 w z.1 p) (fixed_then (fixed_move v (Kind f) Load kinds.Look None) (λ x found p. under_rest_fixed x found))

-- ---- the whole call
module _ (v : PortValue) (address word : ℕ) where
  abbrev frame : ℕ
  frame = frame_at address

  abbrev Sheet : Type 0
  Sheet = PageType × Result (Unit {0}) Stop

  abbrev WordRest : Option ℕ → PortValue → PortValue → Sheet → Type 0
  WordRest None u w z = (z ≡ (Writable, Err (Refused (refusals.BadDescriptor frame (index_at address) word)))) × GaveRef u w frame
  WordRest (Some new) u w z = StoredUnder u frame (own_domain v) (index_at address) new z.0 w z.1

  abbrev LentRest : PortValue → Option Stop → PortValue → Sheet → Type 0
  LentRest u None w z = WordRest (fixed word) u w z
  LentRest u (Some stop) w z = Ends u (Writable, Err stop) w z

  abbrev UpdateView : Option Refusal → PortValue → Sheet → Type 0
  UpdateView (Some x) w z = Ends v (Writable, Err (Refused x)) w z
  UpdateView None w z = Chain (λ u o. GotRef v u frame (own_domain v) (ref_answer frame o)) LentRest w z

  update_view : (want : PageType) (w : PortValue) (r : Result (Unit {0}) Stop) → UpdatesDescriptor v address word want w r → UpdateView (descriptor_refusal address) w (want, r)
  update_view _ _ _ (ways.barred x e) = subst (λ k. UpdateView k v (Writable, Err (Refused x))) (sym e) (refl, refl)
  update_view _ _ _ (ways.unreferred w stop e g) = subst (λ k. UpdateView k w (Writable, Err stop)) (sym e) (record { at = w; answer = Some stop; first = g; rest = (refl, refl) })
  update_view _ _ _ (ways.unfixed u w e g n p) =
      subst (λ k. UpdateView k w (Writable, Err (Refused (refusals.BadDescriptor frame (index_at address) word)))) (sym e)
      (record { at = u; answer = None; first = g; rest = subst (λ k. WordRest k u w (Writable, Err (Refused (refusals.BadDescriptor frame (index_at address) word)))) (sym n) (refl, p) })
  update_view _ _ _ (ways.referred u w new want r e g n s) = subst (λ k. UpdateView k w (want, r)) (sym e) (record { at = u; answer = None; first = g; rest = subst (λ k. WordRest k u w (want, r)) (sym n) s })

  word_rest_fixed : (o : Option ℕ) (u : PortValue) → IsFixed u (WordRest o u)
  word_rest_fixed None u = fixed_sure (Writable, Err (Refused (refusals.BadDescriptor frame (index_at address) word))) (gave_sure u frame)
  word_rest_fixed (Some new) u = under_fixed frame (own_domain v) (index_at address) new u

  lent_rest_fixed : (u : PortValue) (o : Option Stop) → IsFixed u (LentRest u o)
  lent_rest_fixed u None = word_rest_fixed (fixed word) u
  lent_rest_fixed u (Some stop) = fixed_ends u (Writable, Err stop)

  update_view_fixed : (o : Option Refusal) → IsFixed v (UpdateView o)
  update_view_fixed (Some x) = fixed_ends v (Writable, Err (Refused x))
  update_view_fixed None = fixed_then (got_fixed v frame (own_domain v)) (λ u o p. lent_rest_fixed u o)

  pub updates_fixed : IsFixed v (λ w (z : Sheet). UpdatesDescriptor v address word z.0 w z.1)
  updates_fixed = fixed_by (λ w z p. update_view z.0 w z.1 p) (update_view_fixed (descriptor_refusal address))

pub updates_descriptor_came : {v w : PortValue} {address word : ℕ} {want : PageType} {a : Result (Unit {0}) Stop} → UpdatesDescriptor v address word want w a → Came v w
updates_descriptor_came {v} {w} {address} {word} {want} {a} p = (updates_fixed v address word).came w (want, a) p

pub updates_descriptor_alike : {v w x : PortValue} {address word : ℕ} {want other : PageType} {a b : Result (Unit {0}) Stop} → UpdatesDescriptor v address word want w a → UpdatesDescriptor v address word other x b → Alike v w x ((want ≡ other) × (a ≡ b))
updates_descriptor_alike {v} {w} {x} {address} {word} {want} {other} {a} {b} p q =
    alike_map ((updates_fixed v address word).alike w x (want, a) (other, b) p q) (λ e. (ap (λ (z : PageType × Result (Unit {0}) Stop). z.0) e, ap (λ (z : PageType × Result (Unit {0}) Stop). z.1) e))
