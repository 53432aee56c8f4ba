-- The loop that does the things of a list, one by one.
--   Leads        from here, with some things said, what is left leads to where the whole list leads from the start
--   leads_start  it stands at the start
--   leads_more   one thing more
--   leads_end    nothing is left
use Rattle.std.proofs.Common.{◌≡◌, ℕ, ◌+◌, ◌<◌, ◌≤◌, List, [], ◌++◌, length, get_or, drop, sym, refl, ap, ◌∙◌, subst, append_assoc}
use Rattle.std.proofs.lemmas.List.{append-nil, at_drop_more, at_drop_all}
use Rattle.folds.specs.Folds.{all_done, all_said}

module _ {S X A : Type 0} (step : S → X → S) (says : S → X → List A) (start : S) (things : List X) where
  pub record Leads (now : S) (said : List A) (left : List X) : Type 0 where
    pub state : all_done step now left ≡ all_done step start things
    pub all : said ++ all_said step says now left ≡ all_said step says start things

  pub leads_start : (said : List A) → said ≡ [] → Leads start said things
  leads_start said none = record { state = refl; all = ap (λ xs. xs ++ all_said step says start things) none }

  module _ (now : S) (said : List A) (i : ℕ) where
    pub leads_more : (d thing : X) → i < length things → thing ≡ get_or things i d → Leads now said (drop i things)
        → (next : S) (more : List A) → next ≡ step now thing → more ≡ said ++ says now thing → Leads next more (drop (i + 1) things)
    leads_more d thing h is l next more goes tells =
        let first : X = get_or things i d in
        let rest = drop (i + 1) things in
        let here : Leads (step now first) (said ++ says now first) rest = record {
          state = sym (at_drop_more (λ xs. all_done step now xs) things i d h) ∙ l.state;
          all =
              append_assoc said (says now first) (all_said step says (step now first) rest)
              ∙ sym (at_drop_more (λ xs. said ++ all_said step says now xs) things i d h) ∙ l.all;
        } in
        let there : Leads (step now thing) (said ++ says now thing) rest = subst (λ x. Leads (step now x) (said ++ says now x) rest) (sym is) here in
        subst (λ xs. Leads next xs rest) (sym tells) (subst (λ s. Leads s (said ++ says now thing) rest) (sym goes) there)

    pub leads_end : length things ≤ i → Leads now said (drop i things) → (said ≡ all_said step says start things) × (now ≡ all_done step start things)
    leads_end h l = (
      sym (append-nil said) ∙ sym (at_drop_all (λ xs. said ++ all_said step says now xs) things i h) ∙ l.all,
      sym (at_drop_all (λ xs. all_done step now xs) things i h) ∙ l.state,
    )
