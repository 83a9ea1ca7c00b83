-- SPDX-License-Identifier: Apache-2.0
pub mod Single
pub mod Laws
