-- Lines that lead from one front to another, and their text.
use Rattle.std.proofs.Common.{◌≡◌, ◌≢◌, ℕ, ◌+◌, ◌≤◌, List, [], ◌∷◌, ◌++◌, map, slice_index, Ok, true, false, ◌==◌, refl, sym, ap, ◌∙◌, subst, arith, append_assoc}
use Rattle.std.proofs.lemmas.List.Splits.{slice_split_at}
use Rattle.std.proofs.lemmas.Grind.{common_steps}
use Rattle.trace_lines.specs.declared.line.Line.{Line}
use Rattle.trace_lines.specs.Spelling.{IsSpellable, line_text}
use Rattle.trace_lines.proofs.LineAgain.{again, feedless, uncommented}
use Rattle.trace_text.specs.Fronts.{Front, front_after}
use Rattle.trace_text.specs.Lines.{spelling}
use Rattle.trace_text.specs.TraceOf.{step, is_comment, is_ended, lines_of, trace_from, front_trace}
use Rattle.trace_text.proofs.LineLoop.{by_line}
use Rattle.xp_words.proofs.Shared.{eq_false as differ}

-- one line that can be spelled, behind a front that is not ended
pub record Step (f : Front) (l : Line) (h : Front) : Type 0 where
  pub spelled : IsSpellable f.version l
  pub open_still : is_ended f ≡ false
  pub taken : front_after f l ≡ Ok h

abbrev pub Leads : Front → List Line → Front → Type 0
Leads f [] g = f ≡ g
Leads f (l ∷ ls) g = (h : Front) × Step f l h × Leads h ls g

pub leads_both : (f h g : Front) (a b : List Line) → Leads f a h → Leads h b g → Leads f (a ++ b) g
leads_both f h g [] b first second = subst (λ (k : Front). Leads k b g) (sym first) second
leads_both f h g (l ∷ a) b first second = (first.0, first.1, leads_both first.0 h g a b first.2 second)

plain : (line : List ℕ) → slice_index line 0 ≢ 35 → is_comment line ≡ false
plain [] other = refl
plain (c ∷ cs) other = grind (arith, common_steps)

stepped : (f h : Front) (l : Line) → Step f l h → step f (line_text l) ≡ Ok h
unfolding step
stepped f h l is = rw (is.open_still, plain (line_text l) (uncommented l), again f.version l is.spelled) is.taken

-- the lines lead to the end, so their texts are read as what that says
pub leads_again : (f g : Front) (n : ℕ) (ls : List Line) → Leads f ls g → is_ended g ≡ true → trace_from f n (map line_text ls ++ [] ∷ []) ≡ Ok (front_trace g)
unfolding trace_from
leads_again f g n [] same ended = subst (λ (k : Front). trace_from k n ([] ∷ []) ≡ Ok (front_trace g)) (sym same) (rw ended refl)
leads_again f g n (l ∷ ls) leads ended =
    by_line f n (line_text l) (map line_text ls ++ [] ∷ []) (grind (arith, common_steps)) ∙ rw (stepped f leads.0 l leads.1) (leads_again leads.0 g (n + 1) ls leads.2 ended)

-- a text is split into the texts of its lines
pub lines_again : (f g : Front) (ls : List Line) → Leads f ls g → lines_of (spelling ls) ≡ map line_text ls ++ [] ∷ []
lines_again f g [] leads = refl
lines_again f g (l ∷ ls) leads =
    rw (append_assoc, slice_split_at (λ b. b == 10) (line_text l) 10 (spelling ls) (λ k d lt. differ _ 10 (feedless f.version l leads.1.spelled k d lt)) refl) (ap (λ lines. line_text l ∷ lines) (lines_again leads.0 g ls leads.2))

-- lines that lead to a front, but for the place, which is between those
abbrev pub Reaches : ℕ → ℕ → Front → List Line → Front → Type 0
Reaches low high f ls g = (p : ℕ) × (low ≤ p) × (p ≤ high) × Leads f ls (record g { place = p })

pub reaches_both : (low high low' high' : ℕ) (f h g : Front) (a b : List Line) → Reaches low high f a h → ((p : ℕ) → low ≤ p → p ≤ high → Reaches low' high' (record h { place = p }) b g) → Reaches low' high' f (a ++ b) g
reaches_both low high low' high' f h g a b first second =
    let rest = second first.0 first.1 first.2 in
    (rest.0, rest.1, rest.2, leads_both f (record h { place = first.0 }) (record g { place = rest.0 }) a b first.3 rest.3)
