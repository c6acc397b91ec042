use Rattle.normal_forms.proofs.Products.{element-labels, form-element, form-product, label-form}
use Rattle.normal_forms.proofs.laws.elements_are_a_monoid.Goals as goal

pub returns-clause-labels : goal.returns-clause-labels
returns-clause-labels c = λ n letters relations are within F. element-labels n letters relations within F are

pub returns-clause-forms : goal.returns-clause-forms
returns-clause-forms c = form-element

pub returns-clause-products : goal.returns-clause-products
returns-clause-products c = form-product

pub returns-clause-positions : goal.returns-clause-positions
returns-clause-positions c = label-form
