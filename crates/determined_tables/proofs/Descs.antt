-- Descriptor pages that are taken are determined, word by word.
use Rattle.std.proofs.Common.{◌≡◌, ◌≢◌, ℕ, true, false, List, [], ◌∷◌, Option, Some, None, Result, Ok, Err, refl, sym, subst}
use Rattle.xp_words.specs.Entries.{fixed}
use Rattle.xp_words.specs.KindWords.{kind_write}
use Rattle.xp_words.specs.declared.kind.PageType.TheVariants.{Desc}
use Rattle.xp_words.specs.declared.place.Place.TheVariants.{Cell, Clock, Kind}
use Rattle.xp_words.specs.declared.reply.Refusal.TheVariants as refusals
use Rattle.xp_words.specs.declared.reply.Stop.{Stop}
use Rattle.xp_words.specs.declared.reply.Stop.TheVariants.{Refused, Paused}
use Rattle.xp_board.specs.declared.step.Act.TheVariants.{Load, Store}
use Rattle.xp_board.specs.declared.step.StepKind.TheVariants as kinds
use Rattle.xp_board.specs.Told.{PortValue}
use Rattle.step_maker.specs.Moves.{Came, Moves}
use Rattle.step_maker.specs.Visits.{Does, Only, Visit, visits}
use Rattle.step_maker.proofs.Parts.{parts, single, stayed}
use Rattle.step_maker.proofs.Visiting.{does_as}
use Rattle.kind_words.specs.Kinds.{dead_kind, live_kind, partial_kind}
use Rattle.frame_types.specs.declared.taking.Taken.{Taken}
use Rattle.frame_types.specs.declared.taking.Taken.TheVariants as types
use Rattle.table_entries.specs.Acquiring.{GaveRef, GotRef}
use Rattle.desc_pages.specs.Fixing as words
use Rattle.desc_pages.specs.Fixing.{FixesBy}
use Rattle.desc_pages.specs.Pages as pages
use Rattle.desc_pages.specs.Pages.{DescLeft, DiedDesc, GotDesc, PageValidated, TookDesc, TookDescType}
use Rattle.determined_laws.specs.Courses.{Alike}
use Rattle.determined_laws.specs.Forks.{MadeBy}
use Rattle.determined_laws.proofs.Types.{dead_tie}
use Rattle.determined_tables.proofs.Chains.{Chain, Choice, Ends, IsFixed, IsSure, fixed_by, fixed_choice, fixed_ends, fixed_map, fixed_move, fixed_sure, fixed_then, left, right, sure_does, sure_some, sure_two}
use Rattle.determined_tables.proofs.Leaves.{gave_sure, got_fixed, kept_sure, ref_answer, stored, takes_fixed}
use Rattle.determined_tables.proofs.Pages.{frame_or}
use Rattle.determined_tables.proofs.Loops.{Looped, Rounds, begun, halted, looped_fixed, round, through}

-- ---- the last step of a list
last_made : (v z : PortValue) (s : Visit) (vs : List Visit) → MadeBy v z (s ∷ vs) → (u : PortValue) × MadeBy v u vs × Moves u z s.place s.act s.kind s.mark s.found
last_made v z s vs m =
    let p = parts v z (λ us. us ≡ vs) (Only s) (does_as v z _ _ (λ us e. record { before = vs; after = s ∷ []; first = refl; next = refl; list = e }) m) in
    (p.0, p.1, single p.0 z s p.2)

made_list : (v z : PortValue) (P : List Visit → Type 0) → Does v z P → (vs : List Visit) × MadeBy v z vs × P vs
unfolding Does
made_list v z P a = (visits a.0, (a.0, a.1, refl), a.2)

-- ---- one word: it stands, or is replaced by its fixed form, or has none
module _ (f : ℕ) where
  abbrev WordOf : ℕ → ℕ → Option ℕ → PortValue → PortValue → Option ℕ → Type 0
  WordOf i x None m w o = Ends m (Some x) w o
  WordOf i x (Some y) m w o = Choice (y ≡ x) (y ≢ x) (Ends m None) (λ z r. (r ≡ None) × ((old : ℕ) × Moves m z (Cell f i) (Store y) kinds.Cell None old)) w o

  abbrev WordRound : ℕ → PortValue → PortValue → Option ℕ → Type 0
  WordRound i u w o = Chain (λ m x. Moves u m (Cell f i) Load kinds.Look None x) (λ m x. WordOf i x (fixed x) m) w o

  word_of_fixed : (i x : ℕ) (y : Option ℕ) (m : PortValue) → IsFixed m (WordOf i x y m)
  word_of_fixed i x None m = fixed_ends m (Some x)
  word_of_fixed i x (Some y) m = fixed_choice (λ e n. n e) (λ e. fixed_ends m None) (λ n. fixed_sure None (sure_some (fixed_move m (Cell f i) (Store y) kinds.Cell None)))

  word_fixed : (i : ℕ) (u : PortValue) → IsFixed u (WordRound i u)
  word_fixed i u = fixed_then (fixed_move u (Cell f i) Load kinds.Look None) (λ m x p. word_of_fixed i x (fixed x) m)

  -- the first words, so many
  word_rounds : (v : PortValue) (i : ℕ) (vs : List Visit) → FixesBy f i vs → (z : PortValue) → MadeBy v z vs → Rounds WordRound v i z
  word_rounds v _ _ words.none z m = subst (λ k. Rounds WordRound v 0 k) (sym (stayed v z m)) begun
  word_rounds v _ _ (words.stands i x vs e p) z m =
      let last = last_made v z _ vs m in
      round i last.0 z (word_rounds v i vs p last.0 last.1) (record { at = z; answer = x; first = last.2; rest = subst (λ k. WordOf i x k z z None) (sym e) (left refl (refl, refl)) })
  word_rounds v _ _ (words.changes i x y old vs e n p) z m =
      let store = last_made v z _ _ m in
      let load = last_made v store.0 _ vs store.1 in
      round i load.0 z (word_rounds v i vs p load.0 load.1) (record { at = store.0; answer = x; first = load.2; rest = subst (λ k. WordOf i x k store.0 z None) (sym e) (right n (refl, (old, store.2))) })

  fixes_rounds : (v z : PortValue) (i : ℕ) → Does v z (λ vs. FixesBy f i vs) → Rounds WordRound v i z
  fixes_rounds v z i d = let m = made_list v z (λ vs. FixesBy f i vs) d in word_rounds v i m.0 m.2 z m.1

  -- ---- all words, and then the page is live, or dead
  abbrev DiedView : PortValue → PortValue → Unit {0} → Type 0
  DiedView v w t =
      Chain (λ s clock. Moves v s Clock Load kinds.Look None clock) (λ s clock z t. (d : PortValue) × ((old : ℕ) × Moves s d (Kind f) (Store (kind_write (dead_kind Desc false clock))) kinds.Kind None old) × GaveRef d z f) w t

  died_view : (v w : PortValue) (t : Unit {0}) → DiedDesc v w f → DiedView v w t
  died_view v w t p = record { at = p.seen; answer = p.clock; first = p.looks; rest = (p.dead, (p.old, p.stores), p.gives) }

  died_sure : (v : PortValue) → IsSure v (λ w. DiedDesc v w f)
  died_sure v = fixed_by (died_view v) (fixed_then (fixed_move v Clock Load kinds.Look None) (λ s clock p. sure_two (stored s f (dead_kind Desc false clock)) (λ d q. gave_sure d f)))

  abbrev ValidRest : PortValue → ℕ × Option ℕ → PortValue → Result (Unit {0}) Stop → Type 0
  ValidRest z (i, None) w r = (r ≡ Ok tt) × ((old : ℕ) × Moves z w (Kind f) (Store (kind_write (live_kind Desc 1))) kinds.Kind None old)
  ValidRest z (i, Some word) w r = (r ≡ Err (Refused (refusals.BadDescriptor f i word))) × DiedDesc z w f

  valid_view : (v w : PortValue) (r : Result (Unit {0}) Stop) → PageValidated v w f r → Chain (Looped WordRound 512 v) ValidRest w r
  valid_view v w _ (pages.unfixed z e i word low u d) =
      record {
        at = z;
        answer = (i, Some word);
        first = halted i u.at word low (fixes_rounds v u.at i u.fixes.visits) (record { at = z; answer = word; first = u.looks; rest = subst (λ k. WordOf i word k z z (Some word)) (sym u.none) (refl, refl) });
        rest = (refl, d);
      }
  valid_view v w _ (pages.fixed z e old x m) = record { at = z; answer = (512, None); first = through (fixes_rounds v z 512 x.visits); rest = (refl, (old, m)) }

  valid_rest_fixed : (z : PortValue) (k : ℕ × Option ℕ) → IsFixed z (ValidRest z k)
  valid_rest_fixed z (i, None) = fixed_sure (Ok tt) (stored z f (live_kind Desc 1))
  valid_rest_fixed z (i, Some word) = fixed_sure (Err (Refused (refusals.BadDescriptor f i word))) (died_sure z)

  pub validated_fixed : (v : PortValue) → IsFixed v (λ w r. PageValidated v w f r)
  validated_fixed v = fixed_by (valid_view v) (fixed_then (looped_fixed WordRound word_fixed 512 v) (λ z k p. valid_rest_fixed z k))

-- ---- taken, under a reference in hand
desc_left_sure : (v : PortValue) (f owner stamp : ℕ) (stop : Stop) → IsSure v (λ w. DescLeft v w f owner stamp stop)
desc_left_sure v f owner stamp (Refused x) = sure_does v _ (dead_tie f Desc)
desc_left_sure v f owner stamp (Paused x) = kept_sure v f (partial_kind Desc true true 0 stamp) owner

module _ (f owner : ℕ) where
  desc_type_fixed : (v : PortValue) → IsFixed v (λ u a. TookDescType v u f owner a)
  desc_type_fixed v = fixed_by (λ u a p. p.found) (takes_fixed v f owner Desc)

  abbrev DescRest : PortValue → Result Taken Stop → PortValue → Result (Unit {0}) Stop → Type 0
  DescRest u (Ok types.Counted) w r = Ends u (Ok tt) w r
  DescRest u (Ok (types.InWork progress own)) w r = PageValidated u w f r
  DescRest u (Ok (types.Waiting own stamp stop)) w r = (r ≡ Err stop) × DescLeft u w f owner stamp stop
  DescRest u (Err stop) w r = (r ≡ Err stop) × GaveRef u w f

  desc_view : (v w : PortValue) (r : Result (Unit {0}) Stop) → TookDesc v f owner w r → Chain (λ u a. TookDescType v u f owner a) DescRest w r
  desc_view v _ _ (pages.untyped y w stop t g) = record { at = y; answer = Err stop; first = t; rest = (refl, g) }
  desc_view v _ _ (pages.counted w t) = record { at = w; answer = Ok types.Counted; first = t; rest = (refl, refl) }
  desc_view v _ _ (pages.waiting y w stamp stop t l) = record { at = y; answer = Ok (types.Waiting true stamp stop); first = t; rest = (refl, l) }
  desc_view v _ _ (pages.read y w r t p) = record { at = y; answer = Ok (types.InWork 0 true); first = t; rest = p }

  desc_rest_fixed : (u : PortValue) (a : Result Taken Stop) → IsFixed u (DescRest u a)
  desc_rest_fixed u (Ok types.Counted) = fixed_ends u (Ok tt)
  desc_rest_fixed u (Ok (types.InWork progress own)) = validated_fixed f u
  desc_rest_fixed u (Ok (types.Waiting own stamp stop)) = fixed_sure (Err stop) (desc_left_sure u f owner stamp stop)
  desc_rest_fixed u (Err stop) = fixed_sure (Err stop) (gave_sure u f)

  pub took_desc_fixed : (v : PortValue) → IsFixed v (λ w r. TookDesc v f owner w r)
  took_desc_fixed v = fixed_by (desc_view v) (fixed_then (desc_type_fixed v) (λ u a p. desc_rest_fixed u a))

  -- with a reference of its own
  abbrev GotRest : PortValue → Option Stop → PortValue → Result ℕ Stop → Type 0
  GotRest u None w b = (r : Result (Unit {0}) Stop) × TookDesc u f owner w r × (b ≡ frame_or f owner r)
  GotRest u (Some stop) w b = Ends u (Err stop) w b

  got_view : (v w : PortValue) (b : Result ℕ Stop) → GotDesc v f owner w b → Chain (λ u o. GotRef v u f owner (ref_answer f o)) GotRest w b
  got_view v _ _ (pages.unreferred w stop g) = record { at = w; answer = Some stop; first = g; rest = (refl, refl) }
  got_view v _ _ (pages.untaken u w stop g t) = record { at = u; answer = None; first = g; rest = (Err stop, t, refl) }
  got_view v _ _ (pages.had u w g t) = record { at = u; answer = None; first = g; rest = (Ok tt, t, refl) }

  got_rest_fixed : (u : PortValue) (o : Option Stop) → IsFixed u (GotRest u o)
  got_rest_fixed u None = fixed_map (frame_or f owner) (took_desc_fixed u)
  got_rest_fixed u (Some stop) = fixed_ends u (Err stop)

  pub got_desc_fixed : (v : PortValue) → IsFixed v (λ w b. GotDesc v f owner w b)
  got_desc_fixed v = fixed_by (got_view v) (fixed_then (got_fixed v f owner) (λ u o p. got_rest_fixed u o))

pub got_desc_came : {v w : PortValue} {f owner : ℕ} {a : Result ℕ Stop} → GotDesc v f owner w a → Came v w
got_desc_came {v} {w} {f} {owner} {a} p = (got_desc_fixed f owner v).came w a p

pub got_desc_alike : {v w x : PortValue} {f owner : ℕ} {a b : Result ℕ Stop} → GotDesc v f owner w a → GotDesc v f owner x b → Alike v w x (a ≡ b)
got_desc_alike {v} {w} {x} {f} {owner} {a} {b} p q = (got_desc_fixed f owner v).alike w x a b p q
