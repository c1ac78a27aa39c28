use Rattle.exhaustive.proofs.Finding.{always, looked_at}
use Rattle.exhaustive.proofs.looking.look_at_files.Goals as goal

pub returns-in_err-asked-clause-always : goal.returns-in_err-asked-clause-always
returns-in_err-asked-clause-always c = always

pub returns-in_err-looked-clause-always : goal.returns-in_err-looked-clause-always
returns-in_err-looked-clause-always c = always

pub returns-clause-replied : goal.returns-clause-replied
returns-clause-replied c = λ whole alike. looked_at whole c.in_ok-asked.asked.matched c.in_ok-asked.asked.ordered c.in_ok-looked.looked (c.in_ok-asked.ensures.ok whole alike) c.in_ok-looked.ensures

pub returns-clause-always : goal.returns-clause-always
returns-clause-always c = always
