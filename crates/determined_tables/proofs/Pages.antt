-- Frames that are taken as ordinary memory are determined.
use Rattle.std.proofs.Common.{◌≡◌, ℕ, Bool, true, false, Option, Some, None, Result, Ok, Err, refl}
use Rattle.xp_words.specs.declared.kind.PageType.TheVariants.{Writable}
use Rattle.xp_words.specs.declared.reply.Stop.{Stop}
use Rattle.xp_board.specs.Told.{PortValue}
use Rattle.step_maker.specs.Moves.{Came}
use Rattle.kind_words.specs.Kinds.{partial_kind}
use Rattle.frame_types.specs.Plain.{is_refused}
use Rattle.frame_types.specs.declared.taking.Taken.{Taken}
use Rattle.frame_types.specs.declared.taking.Taken.TheVariants as types
use Rattle.table_entries.specs.Acquiring.{GaveRef, GotRef, TookType}
use Rattle.writable_pages.specs.Pages as pages
use Rattle.writable_pages.specs.Pages.{GotPage, LeftPage, PageLeft, TookPage}
use Rattle.determined_laws.specs.Courses.{Alike}
use Rattle.determined_laws.proofs.Types.{dead_tie}
use Rattle.determined_tables.proofs.Chains.{Chain, Ends, IsFixed, IsSure, fixed_by, fixed_ends, fixed_map, fixed_never, fixed_sure, fixed_then, sure_as, sure_does}
use Rattle.determined_tables.proofs.Leaves.{gave_sure, got_fixed, kept_sure, ref_answer, shared_sure, type_fixed}

-- ---- ordinary memory
page_left_sure : (v : PortValue) (f owner stamp : ℕ) (own refused : Bool) → IsSure v (λ w. PageLeft v w f owner stamp own refused)
page_left_sure v f owner stamp true true = sure_does v _ (dead_tie f Writable)
page_left_sure v f owner stamp true false = kept_sure v f (partial_kind Writable true true 0 stamp) owner
page_left_sure v f owner stamp false refused = shared_sure v f Writable stamp

left_page_sure : (v : PortValue) (f owner stamp : ℕ) (own : Bool) (stop : Stop) → IsSure v (λ w. LeftPage v w f owner stamp own stop)
left_page_sure v f owner stamp own stop = sure_as (λ w p. p.steps) (page_left_sure v f owner stamp own (is_refused stop))

module _ (f owner : ℕ) where
  abbrev PageRest : PortValue → Result Taken Stop → PortValue → Result (Unit {0}) Stop → Type 0
  PageRest u (Ok types.Counted) w r = Ends u (Ok tt) w r
  PageRest u (Ok (types.InWork progress own)) w r = ⊥
  PageRest u (Ok (types.Waiting own stamp stop)) w r = (r ≡ Err stop) × LeftPage u w f owner stamp own stop
  PageRest u (Err stop) w r = (r ≡ Err stop) × GaveRef u w f

  page_view : (v w : PortValue) (r : Result (Unit {0}) Stop) → TookPage v f owner w r → Chain (λ u a. TookType v u f owner 0 a) PageRest w r
  page_view v _ _ (pages.counted w t) = record { at = w; answer = Ok types.Counted; first = t; rest = (refl, refl) }
  page_view v _ _ (pages.untyped u w stop t g) = record { at = u; answer = Err stop; first = t; rest = (refl, g) }
  page_view v _ _ (pages.waiting u w own stamp stop t l) = record { at = u; answer = Ok (types.Waiting own stamp stop); first = t; rest = (refl, l) }

  page_rest_fixed : (u : PortValue) (a : Result Taken Stop) → IsFixed u (PageRest u a)
  page_rest_fixed u (Ok types.Counted) = fixed_ends u (Ok tt)
  page_rest_fixed u (Ok (types.InWork progress own)) = fixed_never u (λ w r p. p)
  page_rest_fixed u (Ok (types.Waiting own stamp stop)) = fixed_sure (Err stop) (left_page_sure u f owner stamp own stop)
  page_rest_fixed u (Err stop) = fixed_sure (Err stop) (gave_sure u f)

  pub took_page_fixed : (v : PortValue) → IsFixed v (λ w r. TookPage v f owner w r)
  took_page_fixed v = fixed_by (page_view v) (fixed_then (type_fixed v f owner 0) (λ u a p. page_rest_fixed u a))

  -- with a reference of its own
  abbrev pub frame_or : Result (Unit {0}) Stop → Result ℕ Stop
  frame_or (Ok done) = Ok f
  frame_or (Err stop) = Err stop

  abbrev GotRest : PortValue → Option Stop → PortValue → Result ℕ Stop → Type 0
  GotRest u None w b = (r : Result (Unit {0}) Stop) × TookPage u f owner w r × (b ≡ frame_or r)
  GotRest u (Some stop) w b = Ends u (Err stop) w b

  got_view : (v w : PortValue) (b : Result ℕ Stop) → GotPage v f owner w b → Chain (λ u o. GotRef v u f owner (ref_answer f o)) GotRest w b
  got_view v _ _ (pages.unreferred w stop g) = record { at = w; answer = Some stop; first = g; rest = (refl, refl) }
  got_view v _ _ (pages.refused u w stop g t) = record { at = u; answer = None; first = g; rest = (Err stop, t, refl) }
  got_view v _ _ (pages.had u w g t) = record { at = u; answer = None; first = g; rest = (Ok tt, t, refl) }

  got_rest_fixed : (u : PortValue) (o : Option Stop) → IsFixed u (GotRest u o)
  got_rest_fixed u None = fixed_map frame_or (took_page_fixed u)
  got_rest_fixed u (Some stop) = fixed_ends u (Err stop)

  pub got_page_fixed : (v : PortValue) → IsFixed v (λ w b. GotPage v f owner w b)
  got_page_fixed v = fixed_by (got_view v) (fixed_then (got_fixed v f owner) (λ u o p. got_rest_fixed u o))

pub got_page_came : {v w : PortValue} {f owner : ℕ} {a : Result ℕ Stop} → GotPage v f owner w a → Came v w
got_page_came {v} {w} {f} {owner} {a} p = (got_page_fixed f owner v).came w a p

pub got_page_alike : {v w x : PortValue} {f owner : ℕ} {a b : Result ℕ Stop} → GotPage v f owner w a → GotPage v f owner x b → Alike v w x (a ≡ b)
got_page_alike {v} {w} {x} {f} {owner} {a} {b} p q = (got_page_fixed f owner v).alike w x a b p q
