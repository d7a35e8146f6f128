-- A page of the own LDT that is touched is determined.
use Rattle.std.proofs.Common.{◌≡◌, ◌≢◌, ℕ, ◌+◌, Bool, true, false, Option, Some, None, Result, Ok, Err, refl, sym, ap, subst}
use Rattle.xp_words.specs.ContextWords.{ldt_read}
use Rattle.xp_words.specs.Entries.{frame_of}
use Rattle.xp_words.specs.declared.context.LdtBase.{LdtBase}
use Rattle.xp_words.specs.declared.place.Place.TheVariants.{Vcpu}
use Rattle.xp_words.specs.declared.reply.Refusal.TheVariants as refusals
use Rattle.xp_words.specs.declared.reply.Stop.{Stop}
use Rattle.xp_words.specs.declared.reply.Stop.TheVariants.{Refused}
use Rattle.xp_board.specs.declared.step.Act.TheVariants.{Load}
use Rattle.xp_board.specs.declared.step.StepKind.TheVariants as kinds
use Rattle.xp_board.specs.Told.{PortValue}
use Rattle.step_maker.specs.Moves.{Came, Moves}
use Rattle.step_maker.proofs.Visiting.{does_came}
use Rattle.tlb_walks.specs.Translating.{Walks}
use Rattle.tlb_walks.specs.declared.walks.Walked.{Walked}
use Rattle.desc_pages.specs.Names.{NamesPage, own_domain}
use Rattle.desc_pages.specs.Pages.{GotDesc}
use Rattle.ldt_pages.specs.Touching as ways
use Rattle.ldt_pages.specs.Touching.{FoundPage, TouchesLdt, is_beyond, touch_address}
use Rattle.determined_laws.specs.Courses.{Alike}
use Rattle.determined_laws.proofs.Courses.{alike_does, alike_map}
use Rattle.determined_laws.proofs.Walks.{walk_tie}
use Rattle.determined_tables.proofs.Chains.{Chain, Choice, Ends, IsFixed, fixed_by, fixed_choice, fixed_ends, fixed_move, fixed_never, fixed_pair, fixed_sure, fixed_then, left, right}
use Rattle.determined_tables.proofs.Descs.{got_desc_fixed}
use Rattle.determined_tables.proofs.Gdt.{names_sure}

-- ---- a walk by itself
walks_came : (v w : PortValue) (user : Bool) (va : ℕ) (write : Bool) (a : Result ℕ Stop) → Walks v w user va write a → Came v w
walks_came v w user va write (Ok entry) p = does_came v w _ p.1
walks_came v w user va write (Err e) p = does_came v w _ p.0

entry_same : (r s : Walked) → ◌≡◌ {A = Result Walked Stop} (Ok r) (Ok s) → ◌≡◌ {A = Result ℕ Stop} (Ok r.entry) (Ok s.entry)
entry_same r s e = let t : r ≡ s = cc in ap (λ (k : Walked). Ok k.entry) t

walks_alike : (v w x : PortValue) (user : Bool) (va : ℕ) (write : Bool) (a b : Result ℕ Stop) → Walks v w user va write a → Walks v x user va write b → Alike v w x (a ≡ b)
walks_alike v w x user va write (Ok a) (Ok b) p q =
    alike_map (alike_does p.1 q.1 (λ us vs r s. walk_tie v.post.machine va write (Ok (record { entry = a; barrier = p.0 })) (Ok (record { entry = b; barrier = q.0 })) v.post.vcpu user us vs r s)) (λ e. entry_same _ _ e)
walks_alike v w x user va write (Ok a) (Err f) p q = alike_map (alike_does p.1 q.0 (λ us vs r s. walk_tie v.post.machine va write (Ok (record { entry = a; barrier = p.0 })) (Err f) v.post.vcpu user us vs r s)) (λ e. absurd cc)
walks_alike v w x user va write (Err e) (Ok b) p q = alike_map (alike_does p.0 q.1 (λ us vs r s. walk_tie v.post.machine va write (Err e) (Ok (record { entry = b; barrier = q.0 })) v.post.vcpu user us vs r s)) (λ e. absurd cc)
walks_alike v w x user va write (Err e) (Err f) p q = alike_map (alike_does p.0 q.0 (λ us vs r s. walk_tie v.post.machine va write (Err e) (Err f) v.post.vcpu user us vs r s)) (λ s. let t : e ≡ f = cc in ap (λ z. Err z) t)

pub walks_fixed : (v : PortValue) (user : Bool) (va : ℕ) (write : Bool) → IsFixed v (λ w a. Walks v w user va write a)
walks_fixed v user va write = record { came = λ w a p. walks_came v w user va write a p; alike = λ w x a b p q. walks_alike v w x user va write a b p q }

-- ---- the course: where the LDT was found to be, the frame that the word names now, and the answer
module _ (v : PortValue) (page : ℕ) where
  abbrev Touch : Type 0
  Touch = Option ℕ × Result (Unit {0}) Stop

  abbrev NameRest : ℕ → PortValue → Result ℕ Stop → PortValue → Touch → Type 0
  NameRest entry y (Ok g) w z = (z ≡ (Some (frame_of entry), Ok tt)) × NamesPage y w (22 + page) (Some (frame_of entry))
  NameRest entry y (Err e) w z = Ends y (None, Err e) w z

  abbrev WalkRest : PortValue → Result ℕ Stop → PortValue → Touch → Type 0
  WalkRest x (Ok entry) w z = Chain (λ y g. GotDesc x (frame_of entry) (own_domain v) y g) (NameRest entry) w z
  WalkRest x (Err e) w z = Ends x (None, Err e) w z

  abbrev Unnamed : LdtBase → PortValue → PortValue → Touch → Type 0
  Unnamed b u w z = Chain (λ x r. Walks u x false (touch_address page b) false r) WalkRest w z

  abbrev Within : Bool → LdtBase → PortValue → PortValue → Touch → Type 0
  Within true b u w z = Ends u (None, Err (Refused refusals.BadRange)) w z
  Within false b u w z =
      Chain (λ x word. Moves u x (Vcpu v.post.vcpu (22 + page)) Load kinds.Look None word) (λ x word. Choice (word ≢ 0) (word ≡ 0) (Ends x (None, Ok tt)) (Unnamed b x)) w z

  abbrev OfBase : Option LdtBase → PortValue → PortValue → Touch → Type 0
  OfBase None u w z = ⊥
  OfBase (Some b) u w z = Within (is_beyond page b) b u w z

  abbrev TouchView : PortValue → ℕ × Touch → Type 0
  TouchView w z = Chain (λ u base. Moves v u (Vcpu v.post.vcpu 7) Load kinds.Look None base) (λ u base y (k : ℕ × Touch). (k.0 ≡ base) × OfBase (ldt_read base) u y k.1) w z

  page_view : (base : ℕ) (w u : PortValue) (b : LdtBase) (word : ℕ) (z : Touch) → FoundPage v u page base b word → Choice (word ≢ 0) (word ≡ 0) (Ends u (None, Ok tt)) (Unnamed b u) w z → TouchView w (base, z)
  page_view base w u b word z f rest =
      record {
        at = f.seen;
        answer = base;
        first = f.based.looks;
        rest = (refl, subst (λ k. OfBase k f.seen w z) (sym f.based.reads) (subst (λ k. Within k b f.seen w z) (sym f.within) (record { at = u; answer = word; first = f.looks; rest = rest })));
      }

  touch_view : (base : ℕ) (frame : Option ℕ) (w : PortValue) (r : Result (Unit {0}) Stop) → TouchesLdt v page base frame w r → TouchView w (base, (frame, r))
  touch_view base _ _ _ (ways.beyond w b f e) =
      record { at = w; answer = base; first = f.looks; rest = (refl, subst (λ k. OfBase k w w (None, Err (Refused refusals.BadRange))) (sym f.reads) (subst (λ k. Within k b w w (None, Err (Refused refusals.BadRange))) (sym e) (refl, refl))) }
  touch_view base _ _ _ (ways.held w b word f n) = page_view base w w b word (None, Ok tt) f (left n (refl, refl))
  touch_view base _ _ _ (ways.unwalked u w b e f k) = page_view base w u b 0 (None, Err e) f (right refl (record { at = w; answer = Err e; first = k; rest = (refl, refl) }))
  touch_view base _ _ _ (ways.untaken u x w b entry e f k g) =
      page_view base w u b 0 (None, Err e) f (right refl (record { at = x; answer = Ok entry; first = k; rest = record { at = w; answer = Err e; first = g; rest = (refl, refl) } }))
  touch_view base _ _ _ (ways.touched u x y w b entry f k g n) =
      page_view base w u b 0 (Some (frame_of entry), Ok tt) f (right refl (record { at = x; answer = Ok entry; first = k; rest = record { at = y; answer = Ok (frame_of entry); first = g; rest = (refl, n) } }))

  name_fixed : (entry : ℕ) (y : PortValue) (g : Result ℕ Stop) → IsFixed y (NameRest entry y g)
  name_fixed entry y (Ok g) = fixed_sure (Some (frame_of entry), Ok tt) (names_sure y (22 + page) (Some (frame_of entry)))
  name_fixed entry y (Err e) = fixed_ends y (None, Err e)

  walk_rest_fixed : (x : PortValue) (r : Result ℕ Stop) → IsFixed x (WalkRest x r)
  walk_rest_fixed x (Ok entry) = fixed_then (got_desc_fixed (frame_of entry) (own_domain v) x) (λ y g p. name_fixed entry y g)
  walk_rest_fixed x (Err e) = fixed_ends x (None, Err e)

  within_fixed : (c : Bool) (b : LdtBase) (u : PortValue) → IsFixed u (Within c b u)
  within_fixed true b u = fixed_ends u (None, Err (Refused refusals.BadRange))
  within_fixed false b u =
      fixed_then (fixed_move u (Vcpu v.post.vcpu (22 + page)) Load kinds.Look None)
      (λ x word p. fixed_choice (λ n e. n e) (λ n. fixed_ends x (None, Ok tt)) (λ e. fixed_then (walks_fixed x false (touch_address page b) false) (λ y r q. walk_rest_fixed y r)))

  of_base_fixed : (o : Option LdtBase) (u : PortValue) → IsFixed u (OfBase o u)
  of_base_fixed None u = fixed_never u (λ w z p. p)
  of_base_fixed (Some b) u = within_fixed (is_beyond page b) b u

  pub touches_fixed : IsFixed v (λ w (z : ℕ × Touch). TouchesLdt v page z.0 z.1.0 w z.1.1)
  touches_fixed = fixed_by (λ w z p. touch_view z.0 z.1.0 w z.1.1 p) (fixed_then (fixed_move v (Vcpu v.post.vcpu 7) Load kinds.Look None) (λ u base p. fixed_pair base (of_base_fixed (ldt_read base) u)))

pub touches_ldt_came : {v w : PortValue} {page base : ℕ} {frame : Option ℕ} {a : Result (Unit {0}) Stop} → TouchesLdt v page base frame w a → Came v w
touches_ldt_came {v} {w} {page} {base} {frame} {a} p = (touches_fixed v page).came w (base, (frame, a)) p

-- where the LDT was found to be, and the frame, are the same, too
pub touches_ldt_alike : {v w x : PortValue} {page base other : ℕ} {frame second : Option ℕ} {a b : Result (Unit {0}) Stop} → TouchesLdt v page base frame w a → TouchesLdt v page other second x b → Alike v w x ((base ≡ other) × (frame ≡ second) × (a ≡ b))
touches_ldt_alike {v} {w} {x} {page} {base} {other} {frame} {second} {a} {b} p q =
    alike_map ((touches_fixed v page).alike w x (base, (frame, a)) (other, (second, b)) p q)
    (λ e. (ap (λ (z : ℕ × (Option ℕ × Result (Unit {0}) Stop)). z.0) e, ap (λ (z : ℕ × (Option ℕ × Result (Unit {0}) Stop)). z.1.0) e, ap (λ (z : ℕ × (Option ℕ × Result (Unit {0}) Stop)). z.1.1) e))
