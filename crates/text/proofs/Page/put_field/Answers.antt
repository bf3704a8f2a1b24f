-- `text::Page::put_field` meets its contract.
use Rattle.text.specs.Page.{writes_then}
use Rattle.text.proofs.Page.put_field.Goals as goal

pub returns : goal.returns
returns c = writes_then c.put_word.ensures c.put_decimal.ensures
