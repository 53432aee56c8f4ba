-- What a list of reports makes of any controller that keeps the laws. Assumes nothing.
use Rattle.std.proofs.Common.{◌≡◌, ℕ, ◌+◌, ◌<◌, Bool, true, false, cond, List, [], ◌∷◌, length, get_or, drop, Option, sym, refl, ap, ◌∙◌}
use Rattle.std.proofs.lemmas.List.{at_drop_more}
use Rattle.meaning.specs.declared.path.PathEstimate.{PathEstimate}
use Rattle.meaning.specs.declared.report.Report.{Report}
use Rattle.meaning.specs.Paths.{path_after}
use Rattle.meaning.specs.Reports.{in_range}
use Rattle.meaning.specs.Control.{Control, ControlLaws, told_all, paths_after}

module _ {C : Type 0} {k : Control C} (laws : ControlLaws k) where
  pub packet_after : (c : C) (rs : List Report) → k.packet (told_all k c rs) ≡ k.packet c
  packet_after c [] = refl
  packet_after c (r ∷ rs) = packet_after (k.told c r) rs ∙ laws.packet_stays c r

  -- the path after one report, in range or not
  path_one : (c : C) (r : Report) (b : Bool) → in_range r ≡ b → k.path (k.told c r) ≡ cond b (path_after (k.path c) r.sample) (k.path c)
  path_one c r true e = laws.path_steps c r e
  path_one c r false e = ap (λ (x : C). k.path x) (laws.ignores c r e)

  pub path_all : (c : C) (rs : List Report) → k.path (told_all k c rs) ≡ paths_after (k.path c) rs
  path_all c [] = refl
  path_all c (r ∷ rs) = path_all (k.told c r) rs ∙ ap (λ (p : Option PathEstimate). paths_after p rs) (path_one c r (in_range r) refl)

-- one report more of a list
pub told_more : {C : Type 0} (k : Control C) (c d end : C) (rs : List Report) (i : ℕ) (blank : Report) → i < length rs → d ≡ k.told c (get_or rs i blank)
    → told_all k c (drop i rs) ≡ end → told_all k d (drop (i + 1) rs) ≡ end
told_more {C} k c d end rs i blank l e rest =
    ap (λ (x : C). told_all k x (drop (i + 1) rs)) e ∙ sym (at_drop_more (told_all k c) rs i blank l) ∙ rest
