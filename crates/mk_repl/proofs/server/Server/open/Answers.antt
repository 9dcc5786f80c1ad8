use Rattle.std.proofs.Common.{◌≡◌, ◌∙◌, ap, subst, sym}
use Rattle.mk_history.specs.Shown.{shown_opened}
use Rattle.mk_repl.specs.CommandLogs.{IsKept}
use Rattle.mk_repl.proofs.ServerLemmas.{new-kept}
use Rattle.mk_repl.proofs.server.Server.open.Goals as goal

pub invariant_of-result : goal.invariant_of-result
invariant_of-result c =
    let depth = c.args.words.depth in
    let text = c.in_ok-text_of.field-0.items in
    let opened = c.in_ok-session.ensures.opened in
    let same : text ≡ c.args.text.items = c.in_ok-text_of.ensures ∙ (c.doc.ensures.bytes ∙ ap (λ seen. seen.shown.text) opened) in
    let shown : c.in_ok-session.session.shown ≡ shown_opened depth text = ap (λ seen. seen.shown) opened ∙ ap (λ t. shown_opened depth t) (sym same) in
    record { kept = ∣ (subst (λ s. IsKept text c.new.result s) (sym shown) (new-kept depth text c.new.result c.new.ensures)) ∣₁ }
