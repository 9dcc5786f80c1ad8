use Rattle.std.proofs.Common.{◌≡◌, ◌∙◌, List, ℕ, ap, subst, rules}
use Rattle.std.specs.Io.KnownBytes.{Appends}
use Rattle.std.proofs.KnownBytes.{Appends-kept}
use Rattle.mk_lines.specs.Device.{AppendsPrefix}
use Rattle.mk_tree.specs.LocatedLines.{located_text}
use Rattle.mk_tree.proofs.on_documents.DocumentLemmas.{faithful-text}
use Rattle.mk_tree.proofs.Prefixes.{AppendsPrefix-whole}
use Rattle.mk_run.specs.Runs.{ended}
use Rattle.mk_run.proofs.on_runs.EndLemmas.{ended-is, flushed-whole}
use Rattle.mk_run.proofs.engine.put_out.Goals as goal

pub returns-in-Ok-clause-out : goal.returns-in-Ok-clause-out
returns-in-Ok-clause-out g c =
    let before = g.W.ByteSink.contents c.args.out.now in
    let mid = g.W.ByteSink.contents c.write_to.new.out in
    let after = g.W.ByteSink.contents c.flush.new.self in
    let goes = (ended c.args.session.now.shown).text in
    let there = ended-is c.end.result c.args.session.now.shown c.end.new.self.shown c.end.ensures.done c.end.ensures.refused c.end.ensures.same in
    let text : located_text c.doc.result.now ≡ goes = faithful-text c.doc.result.now c.end.new.self.shown.text c.doc.ensures.text ∙ ap (λ s. s.text) there in
    let out : Appends before mid goes = subst (λ (t : List ℕ). Appends before mid t) text c.in-Ok.ensures.whole in
    record {
      whole = flushed-whole c.flush.result before mid after goes out c.flush.ensures.bytes;
      prefix = AppendsPrefix-whole before after goes (Appends-kept before mid after goes out c.flush.ensures.bytes);
      works = search rules;
      fault = search rules;
      flushed = search rules;
      settled = search rules;
    }

pub returns-in-Err-clause-out : goal.returns-in-Err-clause-out
returns-in-Err-clause-out g c =
    let there = ended-is c.end.result c.args.session.now.shown c.end.new.self.shown c.end.ensures.done c.end.ensures.refused c.end.ensures.same in
    let text : located_text c.doc.result.now ≡ (ended c.args.session.now.shown).text = faithful-text c.doc.result.now c.end.new.self.shown.text c.doc.ensures.text ∙ ap (λ s. s.text) there in
    record {
      whole = tt;
      prefix = subst (λ (t : List ℕ). AppendsPrefix (g.W.ByteSink.contents c.args.out.now) (g.W.ByteSink.contents c.write_to.new.out) t) text c.in-Err.ensures.prefix;
      works = tt;
      fault = search rules;
      flushed = search rules;
      settled = tt;
    }
