-- A command of one line, or one with blocks.
use Rattle.std.proofs.Common.{◌≡◌, ◌∙◌, ◌∷◌, [], List, ℕ, map, ap, subst, sym}
use Rattle.std.specs.Prelude.{◌≢◌}
use Rattle.std.proofs.lemmas.Result.{IfOk-weaker}
use Rattle.mk_script.specs.SeenFields.{bytes}
use Rattle.mk_repl.specs.CommandLines.{LosesBelow, waited_for, words_below}
use Rattle.mk_repl.proofs.CommandLineLemmas.{loses-none, words-found, words-none, words-some}
use Rattle.mk_repl.proofs.TalkLemmas.{answered-line, replied-alone}
use Rattle.mk_repl.proofs.talk.answer_command.Goals as goal

pub returns-then-is_empty-clause-replied : goal.returns-then-is_empty-clause-replied
returns-then-is_empty-clause-replied g c =
    let line : List ℕ = c.args.line.now in
    let found : map bytes c.block_words-words.result.items ≡ words_below line =
    words-found line c.line_text.result.now (map bytes c.block_words-words.result.items) c.requires.short c.line_text.ensures c.block_words-words.ensures in
    let none : words_below line ≡ [] =
    words-none c.block_words-words.result.items (words_below line) (sym c.is_empty.ensures ∙ c.if-is_empty.true) found in
    IfOk-weaker c.handle.result _ _
    (λ after said. (
      [],
      loses-none (g.S.ByteSource.remaining c.args.source.now) (words_below line) none,
      replied-alone g.L.Handler.prompts g.L.Handler.rejects g.L.Handler.handles _ _ (line ∷ []) c.args.handler.now _ after
          (answered-line g.L.Handler.prompts g.L.Handler.rejects g.L.Handler.handles _ _ line c.args.handler.now _ after c.requires.short said),
    ))
    c.handle.ensures.handled

pub new-command-requires-clause-blocks : goal.new-command-requires-clause-blocks
new-command-requires-clause-blocks g c =
    words-some c.block_words-words.result.items (words_below c.args.line.now) (sym c.is_empty.ensures ∙ c.if-is_empty.false)
    (words-found c.args.line.now c.line_text.result.now (map bytes c.block_words-words.result.items) c.requires.short c.line_text.ensures
    c.block_words-words.ensures)

pub returns-clause-replied : goal.returns-clause-replied
returns-clause-replied g c =
    let line : List ℕ = c.args.line.now in
    let found : map bytes c.block_words-words.result.items ≡ words_below line =
    words-found line c.line_text.result.now (map bytes c.block_words-words.result.items) c.requires.short c.line_text.ensures c.block_words-words.ensures in
    let words : waited_for c.new-command.result ≡ words_below line = c.new-command.ensures.words ∙ ap (map bytes) c.as_slice.ensures.value ∙ found in
    let some : words_below line ≢ [] =
    words-some c.block_words-words.result.items (words_below line) (sym c.is_empty.ensures ∙ c.if-is_empty.false) found in
    IfOk-weaker c.answer_blocks.result _ _
    (λ after said. (
      said.0,
      subst (λ words. LosesBelow (g.S.ByteSource.remaining c.args.source.now) (g.S.ByteSource.remaining c.answer_blocks.new.source) words said.0) words said.1,
      (said.2.0, said.2.1, said.2.2 (line ∷ []) some c.new-command.ensures.read),
    ))
    c.answer_blocks.ensures.replied
