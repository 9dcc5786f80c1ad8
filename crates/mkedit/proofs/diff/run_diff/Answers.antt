use Rattle.std.proofs.Common.{◌≡◌, rules}
use Rattle.mkedit.proofs.UnreadLemmas.{unread-unprinted}
use Rattle.mkedit.proofs.diff.run_diff.Goals as goal

pub returns-in-Err-clause-law : goal.returns-in-Err-clause-law
returns-in-Err-clause-law g c = λ printed. absurd
    (let unread = unread-unprinted c.in-Err.fault c.args.run.keep_going in
    let from = c.from.ensures in cc)

pub returns-clause-law : goal.returns-clause-law
returns-clause-law g c = λ printed script says.
    let out = c.put_diff.ensures.is_out printed in
    let same : c.put_diff.result ≡ c.run_to-outcome.result = c.put_diff.ensures.same printed in
    let law = c.run_to-outcome.ensures.law script says in
    record {
      old = c.in-Ok.old.items;
      text = c.run_to-outcome.new.out.text.items;
      hunks = out.0;
      of_makefile = search rules;
      run = rw same (search rules);
      is_diff = search rules;
      is_out = search rules;
    }
